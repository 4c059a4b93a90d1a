-- What the claims about the whole speak of, in terms of what the contracts of `compile`, `compile_texts`, `load_image`,
-- `decide` and `decompile` say.
use Rattle.std.specs.Prelude.{ℕ, List, [], ◌∷◌, ◌≡◌, take, Ok}
use Rattle.policy.specs.Fill.{Filled}
use Rattle.codegen.specs.Compile.{compiled, compiled_texts}
use Rattle.decompile.specs.Decompile.{decompiled}
use Rattle.policy.specs.Set.{EventSet, no_events}
use Rattle.monitor.specs.Decision.{advanced, answer_of}
use Rattle.monitor.specs.declared.state.Decided.{Decided}
use Rattle.pdl.specs.Answer.{Answer}
use Rattle.word.specs.Word.{Bytes}
use Rattle.guarantees.specs.Machine.{ToldLine}

-- a call of the compiler was accepted, and the image is the bytes that it wrote, no more and no fewer
pub record Writes (call : List ℕ → Filled) (image : List ℕ) : Type 0 where
  pub buffer : List ℕ
  pub size : ℕ
  pub accepted : (call buffer).answer ≡ Ok size
  pub written : take size (call buffer).buffer ≡ image

-- its call to this form on the text
abbrev pub CompilesTo : ℕ → List ℕ → List ℕ → Type 0
CompilesTo form text image = Writes (compiled form text) image

-- its call on the maker's and the site's text
abbrev pub TextsCompileTo : ℕ → List ℕ → List ℕ → List ℕ → Type 0
TextsCompileTo form maker site image = Writes (compiled_texts form maker site) image

-- the decompiler's call on the image was accepted, and the text is the bytes that it wrote, no more and no fewer
pub record DecompilesTo (image text : List ℕ) : Type 0 where
  pub buffer : List ℕ
  pub size : ℕ
  pub accepted : (decompiled image buffer).answer ≡ Ok size
  pub written : take size (decompiled image buffer).buffer ≡ text

-- the decisions on an image, line after line, each in its own mode and as an `Answer`: the first where these events are pending, each other
-- one where those are that the one before it left
unfoldable pub answers_from : List ℕ → EventSet → List ToldLine → List Answer
answers_from image pending [] = []
answers_from image pending (x ∷ lines) =
    let next : Decided = advanced x.mode image pending x.line in
    answer_of next.answer ∷ answers_from image next.pending lines

-- the events that are pending behind them
unfoldable pub pending_from : List ℕ → EventSet → List ToldLine → EventSet
pending_from image pending [] = pending
pending_from image pending (x ∷ lines) = pending_from image (advanced x.mode image pending x.line).pending lines

-- at the start none is pending
abbrev pub answers : List ℕ → List ToldLine → List Answer
answers image lines = answers_from image no_events lines

abbrev pub pending_behind : List ℕ → List ToldLine → EventSet
pending_behind image lines = pending_from image no_events lines

-- some accepted text compiles to the image, in some form
pub record SomeText (image : List ℕ) : Type 0 where
  pub form : ℕ
  pub text : List ℕ
  pub bytes : Bytes text
  pub compiles : CompilesTo form text image
