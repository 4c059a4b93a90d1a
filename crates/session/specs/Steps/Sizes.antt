-- How many bytes the buffers of the machines have.
use Rattle.std.specs.Prelude.{ℕ, suc, ◌*◌, ◌/◌}
use Rattle.layout.specs.Layout.{size_limit}
use Rattle.rule_text.specs.Text.{text_limit}

-- of a text: one over its limit, which tells that it is too long
abbrev pub text_held : ℕ
text_held = suc text_limit

-- room for the longest line that the engine prints, or more
abbrev pub line_size : ℕ
line_size = 512

-- the longest listing: a line of nine bytes for each word of the largest image
abbrev pub listing_size : ℕ
listing_size = size_limit / 4 * 9
