-- What an epoch yields (docs/REFERENCE.md, "What an epoch yields"): when a literal, a rule and a constraint hold, which actions
-- of an epoch are proposed, accepted and cancelled, and which events it triggers.
use Rattle.std.specs.Prelude.{ℕ, Bool, true, not, ◌&&◌, List, fold, if◌then◌else◌}
use Rattle.policy.specs.Comparison.{comparison_holds}
use Rattle.policy.specs.Effect.{no_effects, with_effect}
use Rattle.policy.specs.declared.effect.Effects.{Effects}
use Rattle.policy.specs.declared.epoch.Epoch.{Epoch}
use Rattle.policy.specs.declared.epoch.Readings.{Readings}
use Rattle.std.specs.List.{list_all, list_any}
use Rattle.policy.specs.Policy.{Policy, Rule, Constraint}
use Rattle.policy.specs.Set.{ActionSet, EventSet, has_event, all_events, has_action, actions_without, set_of, union_events, meets}
use Rattle.policy.specs.declared.comparison.Literal.{Literal}
use Rattle.policy.specs.declared.line.Part.{Part}
use Rattle.policy.specs.declared.set.Events.{Events}
use Rattle.pdl.specs.Greedy.{greedy}

-- ---- what rules propose, on events of which some may be left out

-- `E1` holds where the event is present, `!E1` where it did not occur
unfoldable pub literal_holds : Events → Literal → Bool
literal_holds ev l = if l.negated then not (has_event ev.occurred l.event) else has_event ev.present l.event

unfoldable pub rule_holds : Events → Readings → Rule → Bool
rule_holds ev rs r = list_all (literal_holds ev) r.literals && list_all (comparison_holds Part.Rules rs) r.comparisons

-- the effects of the rules that pass a test
module _ (test : Rule → Bool) where
  unfoldable pub take_effect : Effects → Rule → Effects
  take_effect s r = if test r then with_effect s r.effect else s

  unfoldable pub effects_where : List Rule → Effects
  effects_where rules = fold take_effect no_effects rules

-- a rule has its effect where it holds
abbrev pub effects : List Rule → Events → Readings → Effects
effects rules ev rs = effects_where (rule_holds ev rs) rules

-- the actions that rules propose, and the events that they trigger
abbrev pub proposals : List Rule → Events → Readings → ActionSet
proposals rules ev rs = (effects rules ev rs).actions

abbrev pub triggers : List Rule → Events → Readings → EventSet
triggers rules ev rs = (effects rules ev rs).events

-- the same on an epoch: none of its events is left out
abbrev pub proposed : List Rule → Epoch → ActionSet
proposed rules e = proposals rules (all_events e.events) e.readings

abbrev pub triggered : List Rule → Epoch → EventSet
triggered rules e = triggers rules (all_events e.events) e.readings

-- ---- events that are triggered occur in the next epoch

-- an epoch whose events are those that its line names and those pending
abbrev pub with_pending : EventSet → Epoch → Epoch
with_pending pending e = record { events = union_events e.events pending; readings = e.readings }

-- the events that some rule triggers
abbrev pub reserved : List Rule → EventSet
reserved rules = (effects_where (λ (r : Rule). true) rules).events

-- fault 18: the line of the epoch names one of them
unfoldable pub names_reserved : List Rule → Epoch → Bool
names_reserved rules e = meets (reserved rules) e.events

-- ---- what is accepted

-- a constraint holds on a set where all its actions are in the set and all its comparisons hold
unfoldable pub constraint_holds : Readings → ActionSet → Constraint → Bool
constraint_holds rs s c = list_all (has_action s) c.actions && list_all (comparison_holds Part.Constraints rs) c.comparisons

-- some constraint holds on the set
unfoldable pub conflict : List Constraint → Readings → ActionSet → Bool
conflict constraints rs s = list_any (constraint_holds rs s) constraints

-- what is kept of a set of actions: by rising number, each unless some constraint holds on those kept so far with it
unfoldable pub resolve : List Constraint → Readings → ActionSet → ActionSet
resolve constraints rs s = set_of (greedy (λ (kept : ℕ). conflict constraints rs (set_of kept)) s.bits)

unfoldable pub accepted : Policy → Epoch → ActionSet
accepted p e = resolve p.constraints e.readings (proposed p.rules e)

-- all other proposed actions
unfoldable pub cancelled : Policy → Epoch → ActionSet
cancelled p e = actions_without (proposed p.rules e) (accepted p e)
