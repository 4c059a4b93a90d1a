use Rattle.std.proofs.Common.{◌≡◌, ℕ, min, List, ◌++◌, length, take, refl, ap, arith}
use Rattle.std.proofs.lemmas.List.{take_min}
use Rattle.lined.proofs.lined.line_held.Goals as goal

-- of a line that lies whole in its part as much is handed on as of one that was held
cut_whole : (held part : List ℕ) (size count : ℕ) → size ≡ 0 → count ≡ min (length part) (length held) → take (length held) (take size held ++ part) ≡ take count part
cut_whole held part size count none least = rw (none, ← take_min (length held) part) (ap (λ (k : ℕ). take k part) (omega (arith, least)))

pub returns-then-size-eq0 : goal.returns-then-size-eq0
returns-then-size-eq0 g c =
    rw (cut_whole c.args.held.now c.args.part.now c.args.size c.min-count.result c.if-size-eq0.true c.min-count.ensures)
    (record { kept = refl; puts = c.line.ensures.puts; short = c.line.ensures.short; goes = c.line.ensures.goes })
