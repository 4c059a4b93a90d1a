-- What the worked image decides on its epochs and how many words are fetched for it, which of two faults comes first, and what the
-- images of further texts decide: missing readings, fetched words and the second mode. One row each.
use Rattle.std.specs.Prelude.{ℕ, true, false, List, [], ◌∷◌, map, pos, set}
use Prim.Native.String.{String}
use Rattle.policy.specs.Policy.{Policy, Rule, Constraint}
use Rattle.policy.specs.Set.{no_actions, actions_from, EventSet}
use Rattle.policy.specs.declared.comparison.Operand.{Operand}
use Rattle.policy.specs.declared.comparison.Relation.{Relation}
use Rattle.policy.specs.declared.effect.Effect.{Effect}
use Rattle.policy.specs.declared.mode.Mode.{Mode}
use Rattle.pdl.specs.Examples.{events_from}
use Rattle.pdl.specs.Answer.{Answer, issues}
use Rattle.lexer.specs.Byte.{bytes}
use Rattle.exactness.specs.Examples.{worked}
use Rattle.layout.specs.Layout.{image_of}
use Rattle.word.specs.Word.{bytes_of}
use Rattle.monitor.specs.Decision.{decision_in, advanced, answer_of, visited_in}

pub record Example : Type 0 where
  pub mode : Mode
  pub image : List ℕ
  pub pending : EventSet
  pub line : String
  pub answer : Answer
  pub visited : ℕ
  -- the events that are pending behind the decision
  pub after : EventSet

-- where these events are pending, with those that are pending behind it
abbrev goes_on_in : Mode → List ℕ → List ℕ → String → List ℕ → List ℕ → ℕ → List ℕ → Example
goes_on_in mode image pending line accepted cancelled visited after =
    record {
      mode = mode;
      image = image;
      pending = events_from pending;
      line = line;
      answer = issues (actions_from accepted) (actions_from cancelled);
      visited = visited;
      after = events_from after;
    }

abbrev yields_in : Mode → List ℕ → String → List ℕ → List ℕ → ℕ → Example
yields_in mode image line accepted cancelled visited = goes_on_in mode image [] line accepted cancelled visited []

abbrev yields : List ℕ → String → List ℕ → List ℕ → ℕ → Example
yields = yields_in Mode.Actions

abbrev reduces : List ℕ → String → List ℕ → List ℕ → ℕ → Example
reduces = yields_in Mode.Events

-- a refusal leaves what is pending
abbrev stays_in : Mode → List ℕ → List ℕ → String → ℕ → ℕ → Example
stays_in mode image pending line number location =
    record {
      mode = mode;
      image = image;
      pending = events_from pending;
      line = line;
      answer = record { is_refused = true; number = number; text = 0; location = location; accepted = no_actions; cancelled = no_actions };
      visited = 0;
      after = events_from pending;
    }

abbrev refuses_in : Mode → List ℕ → String → ℕ → ℕ → Example
refuses_in mode image line number location = stays_in mode image [] line number location

abbrev refuses_with : List ℕ → String → ℕ → ℕ → Example
refuses_with = refuses_in Mode.Actions

abbrev worked_image : List ℕ
worked_image = image_of 1 worked

-- `E1 causes A7`, `never A7 if R4 > 90`
abbrev valve : Policy
valve =
    record {
      rules = record { literals = record { event = record { 0 = 1 }; negated = false } ∷ []; effect = Effect.Causes (record { 0 = 7 }); comparisons = [] } ∷ [];
      constraints =
          record {
            actions = record { 0 = 7 } ∷ [];
            comparisons = record { reading = record { 0 = 4 }; relation = Relation.Greater; operand = Operand.Constant (pos 90) } ∷ [];
          }
          ∷ [];
    }

abbrev valve_image : List ℕ
valve_image = image_of 1 valve

-- `En causes Am`
abbrev causes : ℕ → ℕ → Rule
causes event action = record { literals = record { event = record { 0 = event }; negated = false } ∷ []; effect = Effect.Causes (record { 0 = action }); comparisons = [] }

-- `!En causes Am`
abbrev unless : ℕ → ℕ → Rule
unless event action = record { literals = record { event = record { 0 = event }; negated = true } ∷ []; effect = Effect.Causes (record { 0 = action }); comparisons = [] }

abbrev never : List ℕ → Constraint
never actions = record { actions = map (λ (n : ℕ). record { 0 = n }) actions; comparisons = [] }

-- `E1 causes A1`, `E1 causes A2`, `E2 causes A3`, `never A1`, `never A1 & A2`, `never A2`
abbrev stops : Policy
stops = record { rules = causes 1 1 ∷ causes 1 2 ∷ causes 2 3 ∷ []; constraints = never (1 ∷ []) ∷ never (1 ∷ 2 ∷ []) ∷ never (2 ∷ []) ∷ [] }

abbrev stops_image : List ℕ
stops_image = image_of 1 stops

-- `!E0 causes A0`, `!E0 causes A1`, `never A0 & A1`
abbrev absent : Policy
absent = record { rules = unless 0 0 ∷ unless 0 1 ∷ []; constraints = never (0 ∷ 1 ∷ []) ∷ [] }

abbrev absent_image : List ℕ
absent_image = image_of 1 absent

-- `E1 triggers E60`, `E60 causes A2`, `E2 causes A1`, `never A1 & A2`
abbrev station : Policy
station =
    record {
      rules =
          record { literals = record { event = record { 0 = 1 }; negated = false } ∷ []; effect = Effect.Triggers (record { 0 = 60 }); comparisons = [] }
          ∷ causes 60 2 ∷ causes 2 1 ∷ [];
      constraints = never (1 ∷ 2 ∷ []) ∷ [];
    }

abbrev station_image : List ℕ
station_image = image_of 3 station

-- `E1 triggers E1`, `E2 triggers E60`, `E1 causes A1`, `E60 causes A2`, `!E60 causes A3`, `never A1 & A2`, `never A2 & A3`
abbrev loop : Policy
loop =
    record {
      rules =
          record { literals = record { event = record { 0 = 1 }; negated = false } ∷ []; effect = Effect.Triggers (record { 0 = 1 }); comparisons = [] }
          ∷ record { literals = record { event = record { 0 = 2 }; negated = false } ∷ []; effect = Effect.Triggers (record { 0 = 60 }); comparisons = [] }
          ∷ causes 1 1 ∷ causes 60 2 ∷ unless 60 3 ∷ [];
      constraints = never (1 ∷ 2 ∷ []) ∷ never (2 ∷ 3 ∷ []) ∷ [];
    }

abbrev loop_image : List ℕ
loop_image = image_of 3 loop

-- with another byte at a position
abbrev damaged : ℕ → ℕ → List ℕ
damaged at byte = set worked_image at byte

-- 01000001 70000000 8EFFFFFF: a constraint with no action
abbrev bodiless : List ℕ
bodiless = bytes_of (16777217 ∷ 1879048192 ∷ 2399141887 ∷ [])

unfoldable pub decisions : List Example
decisions =
    yields worked_image "E1 E3 R0=41" (3 ∷ []) (4 ∷ []) 12
    ∷ yields worked_image "E1 E3 R0=40" (4 ∷ []) [] 7
    ∷ yields worked_image "E1 E2 E3 R0=41" (4 ∷ []) [] 5
    ∷ yields worked_image "" [] [] 2
    ∷ refuses_with worked_image "E64" 13 0
    ∷ refuses_with worked_image "R0=1 R0=1" 14 0
    ∷ yields worked_image "E1 E1 R0=41" (3 ∷ []) [] 8
    ∷ refuses_with [] "E64" 7 0
    ∷ refuses_with (damaged 0 6) "E64" 8 0
    ∷ refuses_with (damaged 0 2) "E64" 9 0
    ∷ refuses_with (damaged 3 4) "E64" 9 0
    ∷ refuses_with (damaged 47 0) "E64" 10 0
    ∷ refuses_with bodiless "E64" 11 1
    -- R4 under, at and over its limit, and missing
    ∷ yields valve_image "E1 R4=89" (7 ∷ []) [] 5
    ∷ yields valve_image "E1 R4=90" (7 ∷ []) [] 5
    ∷ yields valve_image "E1 R4=91" [] (7 ∷ []) 6
    ∷ yields valve_image "E1" [] (7 ∷ []) 6
    -- the trial of A1 ends at the first line (2 words), that of A2, by then without A1, at the last (1 and 1 and 2); A3 has a trial
    -- only where it is proposed (1 and 1 and 1)
    ∷ yields stops_image "E1" [] (1 ∷ 2 ∷ []) 11
    ∷ yields stops_image "E2" (3 ∷ []) [] 7
    ∷ yields stops_image "E1 E2" (3 ∷ []) (1 ∷ 2 ∷ []) 15
    -- the second mode. With no event 2 rule words and 1 never word, with E1 6 and 2, with E1 and E3 7 and 3
    ∷ reduces worked_image "E1 E3 R0=41" (3 ∷ []) (4 ∷ []) 21
    ∷ reduces worked_image "E1 E3 R0=40" (4 ∷ []) [] 16
    ∷ reduces worked_image "E1 E2 E3 R0=41" (4 ∷ []) [] 16
    -- never words are fetched where nothing is proposed
    ∷ reduces worked_image "" [] [] 3
    ∷ refuses_in Mode.Events worked_image "E64" 13 0
    ∷ refuses_in Mode.Events [] "E64" 7 0
    -- a dropped event has its trial too
    ∷ reduces stops_image "E1" [] (1 ∷ 2 ∷ []) 13
    ∷ reduces stops_image "E1 E2" (3 ∷ []) (1 ∷ 2 ∷ []) 20
    -- rules with negated literals alone
    ∷ refuses_in Mode.Events absent_image "" 17 0
    ∷ refuses_in Mode.Events absent_image "E1" 17 0
    ∷ reduces absent_image "E0" [] [] 6
    ∷ yields absent_image "" (0 ∷ []) (1 ∷ []) 9
    -- events that are triggered: they occur in the next epoch, once, and no line may name them
    ∷ goes_on_in Mode.Actions station_image [] "E1" [] [] 4 (60 ∷ [])
    ∷ goes_on_in Mode.Actions station_image (60 ∷ []) "" (2 ∷ []) [] 5 []
    ∷ goes_on_in Mode.Actions station_image [] "" [] [] 3 []
    ∷ stays_in Mode.Actions station_image (60 ∷ []) "E64" 13 0
    -- cancelled actions stop no trigger
    ∷ goes_on_in Mode.Actions station_image (60 ∷ []) "E1 E2" (1 ∷ []) (2 ∷ []) 11 (60 ∷ [])
    ∷ stays_in Mode.Actions station_image (60 ∷ []) "E60" 18 0
    ∷ stays_in Mode.Events station_image [] "E60" 18 0
    -- 18 comes behind 14
    ∷ stays_in Mode.Actions station_image (60 ∷ []) "E60 R0=1 R0=1" 14 0
    -- a rule may trigger an event of its own part; an image is not asked for its events where the line is refused
    ∷ stays_in Mode.Events loop_image [] "E1" 18 0
    ∷ goes_on_in Mode.Actions loop_image (1 ∷ []) "" (1 ∷ 3 ∷ []) [] 14 (1 ∷ [])
    -- a pending event is tried like a named one, and what is dropped triggers nothing
    ∷ goes_on_in Mode.Events loop_image (1 ∷ 60 ∷ []) "E2" (1 ∷ []) (2 ∷ []) 40 (1 ∷ 60 ∷ [])
    ∷ []

-- what the definitions say of a row
unfoldable pub decided : Example → Example
decided x =
    record {
      mode = x.mode;
      image = x.image;
      pending = x.pending;
      line = x.line;
      answer = answer_of (decision_in x.mode x.image x.pending (bytes x.line));
      visited = visited_in (decision_in x.mode x.image x.pending (bytes x.line));
      after = (advanced x.mode x.image x.pending (bytes x.line)).pending;
    }
