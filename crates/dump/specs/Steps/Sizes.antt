-- How many bytes the words of a dump take that are held.
use Rattle.std.specs.Prelude.{ℕ, ◌+◌}
use Rattle.layout.specs.Layout.{size_limit}

-- one word over the largest image, which tells that there are too many
abbrev pub dump_size : ℕ
dump_size = size_limit + 4
