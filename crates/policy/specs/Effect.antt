-- What rules do: an effect proposes an action or triggers an event.
use Rattle.std.specs.Prelude.{ℕ, Bool}
use Rattle.policy.specs.Set.{no_events, has_event, insert_event, no_actions, has_action, insert_action}
use Rattle.policy.specs.declared.effect.Effect.{Effect}
use Rattle.policy.specs.declared.effect.Effects.{Effects}

-- the number of its action or its event
unfoldable pub effect_number : Effect → ℕ
effect_number (Effect.Causes a) = a.0
effect_number (Effect.Triggers e) = e.0

-- ---- some effects together

abbrev pub no_effects : Effects
no_effects = record { actions = no_actions; events = no_events }

unfoldable pub has_effect : Effects → Effect → Bool
has_effect s (Effect.Causes a) = has_action s.actions a
has_effect s (Effect.Triggers e) = has_event s.events e

-- with one more
unfoldable pub with_effect : Effects → Effect → Effects
with_effect s (Effect.Causes a) = record { actions = insert_action s.actions a; events = s.events }
with_effect s (Effect.Triggers e) = record { actions = s.actions; events = insert_event s.events e }
