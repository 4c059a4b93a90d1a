-- A worked example (docs/REFERENCE.md, "The image") and the empty policy, one row each: the words of the image, what the loader
-- answers for its bytes and the policy that it then holds.
use Rattle.std.specs.Prelude.{ℕ, Bool, true, false, List, [], ◌∷◌, pos, Result, Ok, Err}
use Rattle.policy.specs.Policy.{Policy}
use Rattle.policy.specs.declared.comparison.Literal.{Literal}
use Rattle.policy.specs.declared.comparison.Operand.{Operand}
use Rattle.policy.specs.declared.comparison.Relation.{Relation}
use Rattle.policy.specs.Fault.{refusal}
use Rattle.policy.specs.declared.effect.Effect.{Effect}
use Rattle.policy.specs.declared.fault.Fault.{Fault}
use Rattle.policy.specs.declared.fault.Refusal.{Refusal}
use Rattle.std.specs.List.{swap}
use Rattle.word.specs.Word.{words_of, bytes_of}
use Rattle.layout.specs.Layout.{image_of}
use Rattle.image.specs.Held.{policy_in}
use Rattle.image.specs.Load.{Contents, load}

abbrev event : ℕ → Bool → Literal
event n negated = record { event = record { 0 = n }; negated = negated }

-- `E1 & !E2 causes A3 if R0 > 40`, `E3 causes A4`, `never A3 & A4`
unfoldable pub worked : Policy
worked =
    record {
      rules =
          record {
            literals = event 1 false ∷ event 2 true ∷ [];
            effect = Effect.Causes (record { 0 = 3 });
            comparisons = record { reading = record { 0 = 0 }; relation = Relation.Greater; operand = Operand.Constant (pos 40) } ∷ [];
          }
          ∷ record { literals = event 3 false ∷ []; effect = Effect.Causes (record { 0 = 4 }); comparisons = [] } ∷ [];
      constraints = record { actions = record { 0 = 3 } ∷ record { 0 = 4 } ∷ []; comparisons = [] } ∷ [];
    }

-- `E1 & E2 triggers E60 if R0 > 5`
unfoldable pub boosting : Policy
boosting =
    record {
      rules =
          record {
            literals = event 1 false ∷ event 2 false ∷ [];
            effect = Effect.Triggers (record { 0 = 60 });
            comparisons = record { reading = record { 0 = 0 }; relation = Relation.Greater; operand = Operand.Constant (pos 5) } ∷ [];
          }
          ∷ [];
      constraints = [];
    }

unfoldable pub empty_policy : Policy
empty_policy = record { rules = []; constraints = [] }

-- a form, and a policy whose image is written in it
pub record Source : Type 0 where
  pub form : ℕ
  pub policy : Policy

pub record Image : Type 0 where
  pub words : List ℕ
  pub answer : Result Contents Refusal
  pub holds : Policy

unfoldable pub sources : List Source
sources =
    record { form = 1; policy = worked } ∷ record { form = 1; policy = empty_policy } ∷ record { form = 2; policy = worked }
    ∷ record { form = 2; policy = empty_policy } ∷ record { form = 3; policy = boosting } ∷ record { form = 5; policy = boosting } ∷ []

abbrev worked_contents : ℕ → Contents
worked_contents form =
    record {
      form = form;
      parts =
          record {
            rules = 272629764 ∷ 545259523 ∷ 805339137 ∷ 40 ∷ 1354760192 ∷ 281018369 ∷ 1358954496 ∷ [];
            constraints = 1623195650 ∷ 1627389953 ∷ 1879048192 ∷ [];
          };
      counts = record { rules = 2; constraints = 1 };
    }

abbrev no_contents : ℕ → Contents
no_contents form = record { form = form; parts = record { rules = []; constraints = [] }; counts = record { rules = 0; constraints = 0 } }

abbrev boosting_contents : ℕ → Contents
boosting_contents form = record { form = form; parts = record { rules = 272629764 ∷ 276824067 ∷ 805339137 ∷ 5 ∷ 2399141888 ∷ []; constraints = [] }; counts = record { rules = 1; constraints = 0 } }

-- the words in hexadecimal: 01007003, 10400004, 20800003, 30008001, 00000028, 50C00000, 10C00001, 51000000, 60C00002, 61000001, 70000000,
-- B9FF0FC9; 01000000, FF000000; and in form 2 the same from 02007003 to 70000000, then 26827103, 927C9EC6; 02000000, 02000000, FC000000; and in form 3
-- 03005000, 10400004, 10800003, 30008001, 00000005, 8F000000, 6F02502E, AE3CDFC5
unfoldable pub images : List Image
images =
    record {
      words =
          16805891 ∷ 272629764 ∷ 545259523 ∷ 805339137 ∷ 40 ∷ 1354760192 ∷ 281018369 ∷ 1358954496 ∷ 1623195650 ∷ 1627389953 ∷ 1879048192
          ∷ 3120500681 ∷ [];
      answer = Ok (worked_contents 1);
      holds = worked;
    }
    ∷ record { words = 16777216 ∷ 4278190080 ∷ []; answer = Ok (no_contents 1); holds = empty_policy }
    ∷ record {
      words =
          33583107 ∷ 272629764 ∷ 545259523 ∷ 805339137 ∷ 40 ∷ 1354760192 ∷ 281018369 ∷ 1358954496 ∷ 1623195650 ∷ 1627389953 ∷ 1879048192
          ∷ 646082819 ∷ 2457640646 ∷ [];
      answer = Ok (worked_contents 2);
      holds = worked;
    }
    ∷ record { words = 33554432 ∷ 33554432 ∷ 4227858432 ∷ []; answer = Ok (no_contents 2); holds = empty_policy }
    ∷ record { words = 50352128 ∷ 272629764 ∷ 276824067 ∷ 805339137 ∷ 5 ∷ 2399141888 ∷ 1862422574 ∷ 2923225029 ∷ []; answer = Ok (boosting_contents 3); holds = boosting }
    ∷ record { words = 83906560 ∷ 272629764 ∷ 276824067 ∷ 805339137 ∷ 5 ∷ 2399141888 ∷ 1895977006 ∷ 2856116165 ∷ []; answer = Ok (boosting_contents 5); holds = boosting } ∷ []

unfoldable pub image_for : Source → Image
image_for s = record { words = words_of (image_of s.form s.policy); answer = load (image_of s.form s.policy); holds = policy_in (image_of s.form s.policy) }

-- words that are refused, under what, and where
pub record Refused : Type 0 where
  pub words : List ℕ
  pub fault : Fault
  pub location : ℕ

-- the worked image of form 2 with its words 5 and 6, or 0 and 1, in each other's place; one of form 2 without a weighted word; one with a
-- rule that triggers, which form 2 has not; and one of form 6
unfoldable pub refused : List Refused
refused =
    record { words = swap (words_of (image_of 2 worked)) 5 6; fault = Fault.ImageWeightedSum; location = 0 }
    ∷ record { words = swap (words_of (image_of 2 worked)) 0 1; fault = Fault.ImageForm; location = 0 }
    ∷ record { words = 33554432 ∷ 4261412864 ∷ []; fault = Fault.ImageCount; location = 0 }
    ∷ record { words = 33574912 ∷ 272629764 ∷ 276824067 ∷ 805339137 ∷ 5 ∷ 2399141888 ∷ 1845645358 ∷ 2956779461 ∷ []; fault = Fault.ImageBody; location = 1 }
    ∷ record { words = 100683776 ∷ 272629764 ∷ 276824067 ∷ 805339137 ∷ 5 ∷ 2399141888 ∷ 1912754222 ∷ 2822561733 ∷ []; fault = Fault.ImageForm; location = 0 } ∷ []

unfoldable pub loaded_words : Refused → Result Contents Refusal
loaded_words x = load (bytes_of x.words)

unfoldable pub refusal_of : Refused → Result Contents Refusal
refusal_of x = Err (refusal x.fault x.location)
