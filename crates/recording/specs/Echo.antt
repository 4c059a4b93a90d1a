-- What an echo hands out from here on: what waits, and the bytes that come.
use Rattle.std.specs.Prelude.{ℕ, List, ◌++◌, take}
use Rattle.recording.specs.declared.echo.Echo.{Echo}

abbrev pub echoed_of : Echo → List ℕ → List ℕ
echoed_of echo bytes = take echo.used echo.out ++ bytes
