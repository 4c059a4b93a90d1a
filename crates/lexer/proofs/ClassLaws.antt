-- What the class of a byte says of it, and that the table has the class of each byte.
use Rattle.std.proofs.Common.{ℕ, zero, suc, ◌+◌, ◌<◌, List, [], ◌∷◌, ◌≡◌, refl, ap, ◌∙◌, arith, get_or}
use Rattle.lexer.specs.declared.class.TheConstants.{CLASSES}
use Rattle.lexer.specs.declared.class.Class.{Class}
use Rattle.lexer.specs.Byte.{bytes, class_of}

-- ---- the table

-- the classes of n bytes, the first being b
classes_from : ℕ → ℕ → List Class
classes_from b zero = []
classes_from b (suc n) = class_of b ∷ classes_from (suc b) n

table_right : CLASSES ≡ classes_from 0 256
unfolding classes_from class_of bytes
table_right = refl

class_at : (b n k : ℕ) (x : Class) → k < n → get_or (classes_from b n) k x ≡ class_of (b + k)
unfolding classes_from
class_at b zero k x h = absurd (omega arith)
class_at b (suc n) zero x h = ap class_of (omega arith)
class_at b (suc n) (suc k) x h = class_at (suc b) n k x (omega arith) ∙ ap class_of (omega arith)

pub class_right : (b : ℕ) (x : Class) → b < 256 → get_or CLASSES b x ≡ class_of b
class_right b x h = ap (λ (table : List Class). get_or table b x) table_right ∙ class_at 0 256 b x h ∙ ap class_of (omega arith)
