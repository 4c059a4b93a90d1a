-- What a decompilation that answers a size has done.
use Rattle.std.specs.Prelude.{ℕ, ◌≤◌, List, ◌≡◌, length, take, drop, Ok}
use Rattle.image.specs.Held.{policy_in}
use Rattle.image.specs.Load.{load, Contents}
use Rattle.printer.specs.Printed.{longest_text_for, text_of}
use Rattle.decompile.specs.Decompile.{decompiled}

-- the bytes that a decompilation of so many bytes wrote
abbrev pub text_written_in : ℕ → List ℕ → List ℕ → List ℕ
text_written_in size image buffer = take size (decompiled image buffer).buffer

-- a decompilation of so many bytes
pub record TextWritten (image buffer : List ℕ) (size : ℕ) : Type 0 where
  -- the loader takes the image, and the bytes are the text of the policy that it holds
  pub contents : Contents
  pub taken : load image ≡ Ok contents
  pub text : text_written_in size image buffer ≡ text_of (policy_in image)
  pub long : length (text_written_in size image buffer) ≡ size
  -- what lies behind the text is as it was
  pub behind : drop size (decompiled image buffer).buffer ≡ drop size buffer
  -- no more than the longest text for the image's form
  pub largest : size ≤ longest_text_for contents.form
