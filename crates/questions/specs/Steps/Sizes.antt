-- How many bytes the buffers of the explainer have.
use Rattle.std.specs.Prelude.{ℕ, suc, ◌+◌}
use Rattle.epoch_line.specs.Epoch.{epoch_limit}
use Rattle.rule_text.specs.Text.{text_limit}

-- of a text, and of an epoch line: one over its limit, which tells that it is too long
abbrev pub text_held : ℕ
text_held = suc text_limit

abbrev pub epoch_held : ℕ
epoch_held = suc epoch_limit

-- of a name of a first word
abbrev pub name_held : ℕ
name_held = 4

-- of a line: a name, a space and an epoch line
abbrev pub line_held : ℕ
line_held = name_held + 1 + epoch_held

-- the longest answer to a question: a line of a text, and what stands around it
abbrev pub answer_size : ℕ
answer_size = text_limit + 34
