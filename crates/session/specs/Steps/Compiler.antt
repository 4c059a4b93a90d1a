-- What a compiler prints at the end of its input, if these bytes come before it.
use Rattle.std.specs.Prelude.{ℕ, List, ◌++◌, take}
use Rattle.session.specs.Listed.{listed}
use Rattle.session.specs.declared.compiler.Compiler.{Compiler}

abbrev pub listed_of : Compiler → List ℕ → List ℕ
listed_of c bytes = listed (take c.size c.text ++ bytes)
