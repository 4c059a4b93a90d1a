-- What the words of an image do is what a policy yields: of the image that was written for it, and of one that the loader took by the policy that it holds.
use Rattle.std.proofs.Common.{ℕ, true, List, ◌≡◌, refl, ap, ◌∙◌, arith, Ok}
use Rattle.policy.specs.Limits.{Acceptable}
use Rattle.policy.specs.Policy.{Policy}
use Rattle.policy.specs.Set.{ActionSet}
use Rattle.policy.specs.declared.epoch.Readings.{Readings}
use Rattle.policy.specs.declared.set.Events.{Events}
use Rattle.pdl.specs.Yield.{effects, reserved, conflict}
use Rattle.pdl.proofs.Reserved.{none_reserved}
use Rattle.word.specs.Word.{Bytes}
use Rattle.layout.specs.Layout.{known_form, rule_part_words, image_of}
use Rattle.image.specs.Held.{policy_in}
use Rattle.image.specs.Load.{Contents, load}
use Rattle.exactness.proofs.Exact.{image_taken, took, held_acceptable, taken_rules, taken_constraints}
use Rattle.exactness.specs.Exact.{contents_of}
use Rattle.run.specs.Run.{run_rules, run_constraints}
use Rattle.monitor.specs.Decision.{reserved_in}
use Rattle.meaning.proofs.Meaning.{rules_run, reserved_run, constraints_run}

-- an image whose words do what a policy yields
pub record Implements (image : List ℕ) (contents : Contents) (p : Policy) : Type 0 where
  pub taken : load image ≡ Ok contents
  pub acceptable : Acceptable contents.form p
  pub rules : (ev : Events) (rs : Readings) → run_rules ev rs contents.parts.rules ≡ effects p.rules ev rs
  pub reserves : reserved_in contents ≡ reserved p.rules
  pub constraints : (rs : Readings) (s : ActionSet) → run_constraints rs s contents.parts.constraints ≡ conflict p.constraints rs s

-- what its words reserve, by its form
reserved_is : (contents : Contents) (p : Policy) → Acceptable contents.form p → contents.parts.rules ≡ rule_part_words p → reserved_in contents ≡ reserved p.rules
unfolding reserved_in
reserved_is contents p ok same =
    let named = reserved_run p ok.rules_valid in
    grind (arith, none_reserved, ok.rules_allowed)

-- what was written for a policy
pub written_implements : (form : ℕ) → known_form form ≡ true → (p : Policy) → Acceptable form p → Implements (image_of form p) (contents_of form p) p
written_implements form known p ok =
    record {
      taken = image_taken form known p ok;
      acceptable = ok;
      rules = rules_run p ok.rules_valid;
      reserves = reserved_is (contents_of form p) p ok refl;
      constraints = constraints_run p ok.constraints_valid;
    }

module _ (bytes : List ℕ) (bounded : Bytes bytes) (contents : Contents) (taken : load bytes ≡ Ok contents) where
  -- its rule words yield the effects of its policy's rules, on any events and readings
  pub taken_rules_run : (ev : Events) (rs : Readings) → run_rules ev rs contents.parts.rules ≡ effects (policy_in bytes).rules ev rs
  taken_rules_run ev rs = ap (run_rules ev rs) (taken_rules bytes bounded contents taken) ∙ rules_run (policy_in bytes) (held_acceptable bytes bounded contents taken).rules_valid ev rs

  -- its constraint words, run on a set, say whether a constraint of its policy holds on the set
  pub taken_constraints_run : (rs : Readings) (s : ActionSet)
      → run_constraints rs s contents.parts.constraints ≡ conflict (policy_in bytes).constraints rs s
  taken_constraints_run rs s = ap (run_constraints rs s) (taken_constraints bytes bounded contents taken) ∙ constraints_run (policy_in bytes) (held_acceptable bytes bounded contents taken).constraints_valid rs s

  acceptable_in : Acceptable contents.form (policy_in bytes)
  acceptable_in = rw (took bytes contents taken).form_is (held_acceptable bytes bounded contents taken)

  -- it reserves the events that its policy's rules trigger
  pub taken_reserves : reserved_in contents ≡ reserved (policy_in bytes).rules
  taken_reserves = reserved_is contents (policy_in bytes) acceptable_in (taken_rules bytes bounded contents taken)

  pub taken_implements : Implements bytes contents (policy_in bytes)
  taken_implements =
      record { taken = taken; acceptable = acceptable_in; rules = taken_rules_run; reserves = taken_reserves; constraints = taken_constraints_run }
