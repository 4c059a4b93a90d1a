-- The loader takes exactly the images of policies that an accepted text may have, refuses others at the right location, and
-- refuses every image in which one word was changed.
use Rattle.std.proofs.Common.{ℕ, ◌+◌, ◌%◌, ◌≤◌, ◌<◌, Bool, true, false, List, map, ◌↔◌, ◌≡◌, refl, sym, ap, ◌∙◌, arith, eqb-true, length, take, take-append-drop, length-set, length-append, Result, Ok, Err, get_or, set}
use Rattle.std.proofs.lemmas.Bool.Decides.{nat_tests}
use Rattle.std.proofs.Math.ListN.{length-map}
use Rattle.policy.specs.Fault.{fault_number, refusal}
use Rattle.policy.specs.Limits.{Acceptable}
use Rattle.policy.specs.Line.{PolicyLine, rule, constraint}
use Rattle.policy.specs.Policy.{Policy}
use Rattle.policy.specs.declared.fault.Fault.{Fault}
use Rattle.policy.specs.declared.fault.Refusal.{Refusal}
use Rattle.exactness.proofs.ImageLaws.{lines_below, rules_between, constraints_between, rules_size, constraints_size, content_of}
use Rattle.image.proofs.HeldLaws.{counted, HeldParts, held_parts, taken_parts}
use Rattle.exactness.proofs.PartLines.{lines_limit, lines_found, part_whole_exactly, part_fault_exactly, rules_kind, constraints_kind, rules_allowed, rules_back, constraints_back}
use Rattle.decode.specs.Stands.{AreLines}
use Rattle.layout.proofs.CheckLaws.{form_below, limits_small, checks_few, size_fits, checks_length, checks_below, checks_sum, checks_found, weighted_made}
use Rattle.layout.proofs.SumLaws.{sum_set}
use Rattle.word.proofs.WordLaws.{words_length, words_below, words_of_bytes, bytes_of_words, bytes_length, below_append, below_cons, set_below}
use Rattle.layout.proofs.HeaderLaws.{header_below, form_header, rules_header, constraints_header, header_fields}
use Rattle.word.specs.Word.{word_limit, Bytes, words_of, word_at, between, Below}
use Rattle.layout.specs.Header.{pack_header, form_of, rule_count_of, constraint_count_of}
use Rattle.image.specs.Check.{rule_words, constraint_words, form_byte, well_sized, counts_fit, sums_to_zero, weights_right}
use Rattle.image.specs.Held.{lines_in, policy_in}
use Rattle.layout.specs.Layout.{known_form, check_count, rule_word_limit, constraint_word_limit, check_words, header_word, rule_part_words, constraint_part_words, content_words, image_words, image_of}
use Rattle.image.specs.Lines.{part_lines, rule_part, constraint_part, rule_lines, constraint_lines}
use Rattle.image.specs.Load.{Contents, body_answer, load_words, load}
use Rattle.exactness.specs.Exact.{IsImage, contents_of, changed, Checked, Weighed, RefusedEarly, RefusalOf, of_checks, of_weights, of_body}
use Rattle.exactness.specs.ImageFault.{NoLineAt, ImageFault, wrong_size, unknown_form, wrong_count, wrong_sum, wrong_weights, no_rule, no_constraint}
use Rattle.policy.specs.declared.line.Part.{Part}

-- ---- the image of an acceptable policy

module _ (form : ℕ) (known : known_form form ≡ true) (p : Policy) (ok : Acceptable form p) where
  abbrev P : ℕ
  P = length (rule_part_words p)

  abbrev N : ℕ
  N = length (constraint_part_words p)

  pub P_limit : P ≤ rule_word_limit form
  unfolding rule_part_words
  P_limit = omega (arith, lines_limit (map rule p.rules) ok.rules_valid, length-map p.rules rule, ok.few_rules)

  pub N_limit : N ≤ constraint_word_limit form
  unfolding constraint_part_words
  N_limit = omega (arith, lines_limit (map constraint p.constraints) ok.constraints_valid, length-map p.constraints constraint, ok.few_constraints)

  small : (P < 4096) × (N < 4096) × (form < 256)
  small = omega (arith, P_limit, N_limit, limits_small form, form_below form known)

  pub content_below : Below word_limit (content_words form p)
  unfolding content_words header_word rule_part_words constraint_part_words
  content_below = grind (arith, below_cons, header_below, small, below_append, lines_below)

  image_below : Below word_limit (image_words form p)
  unfolding image_words
  image_below = below_append word_limit (content_words form p) (check_words form (content_words form p)) content_below (checks_below form (content_words form p))

  pub image_words_is : words_of (image_of form p) ≡ image_words form p
  unfolding image_of
  image_words_is = words_of_bytes (image_words form p) image_below

  pub image_length : length (image_words form p) ≡ 1 + P + N + check_count form
  unfolding image_words content_words
  image_length = grind (arith, length-append, checks_length)

  pub image_size : well_sized (length (image_of form p)) ≡ true
  unfolding well_sized image_of
  image_size = grind (arith, nat_tests, bytes_length (image_words form p), image_length, checks_few form, P_limit, N_limit, size_fits form)

  first_word : get_or (image_words form p) 0 0 ≡ pack_header form P N
  unfolding image_words content_words header_word
  first_word = refl

  pub form_is : form_byte (image_words form p) ≡ form
  form_is = ap form_of first_word ∙ form_header form P N small.2 small.0 small.1

  pub rules_are : rule_words (image_words form p) ≡ P
  rules_are = ap rule_count_of first_word ∙ rules_header form P N small.2 small.0 small.1

  pub constraints_are : constraint_words (image_words form p) ≡ N
  constraints_are = ap constraint_count_of first_word ∙ constraints_header form P N small.2 small.0 small.1

  counts : counts_fit (image_words form p) ≡ true
  unfolding counts_fit
  counts = rw (rules_are, constraints_are, form_is) (grind (arith, nat_tests, P_limit, N_limit, image_length))

  sums : sums_to_zero (image_words form p) ≡ true
  unfolding sums_to_zero image_words
  sums = rw (checks_sum form (content_words form p))

  weights : weights_right (image_words form p) ≡ true
  unfolding weights_right image_words
  weights = grind (arith, form_is, rules_are, constraints_are, weighted_made, image_length, length-append, checks_length)

  image_rules : between 1 (1 + P) (image_words form p) ≡ rule_part_words p
  unfolding image_words content_words
  image_rules = rules_between (header_word form (rule_part_words p) (constraint_part_words p)) (rule_part_words p) (constraint_part_words p) (check_words form (content_words form p)) P N refl refl

  image_constraints : between (1 + P) (1 + P + N) (image_words form p) ≡ constraint_part_words p
  unfolding image_words content_words
  image_constraints = constraints_between (header_word form (rule_part_words p) (constraint_part_words p)) (rule_part_words p) (constraint_part_words p) (check_words form (content_words form p)) P N refl refl

  rule_lines_is : rule_lines (image_words form p) ≡ Ok (map rule p.rules)
  unfolding part_lines rule_part_words
  rule_lines_is = rw (form_is, rules_are, image_rules) (lines_found form Part.Rules (map rule p.rules) 128 1 (rules_kind form p.rules ok.rules_allowed) ok.rules_valid (omega (arith, length-map p.rules rule, ok.few_rules)))

  constraint_lines_is : constraint_lines (image_words form p) ≡ Ok (map constraint p.constraints)
  unfolding part_lines constraint_part_words
  constraint_lines_is = grind (arith, form_is, rules_are, constraints_are, image_constraints, lines_found, constraints_kind, length-map)

  -- the loader takes the image of every acceptable policy, and says how many words and lines it has
  pub image_taken : load (image_of form p) ≡ Ok (contents_of form p)
  unfolding load load_words body_answer
  image_taken =
      rw (image_size, image_words_is, rule_lines_is, constraint_lines_is, form_is, known, counts, sums, weights, rules_are, constraints_are, image_rules, image_constraints, length-map p.rules rule, length-map p.constraints constraint)

  -- the policy that it then holds is that policy
  pub image_holds : policy_in (image_of form p) ≡ p
  unfolding policy_in lines_in
  image_holds = grind (arith, image_words_is, rule_lines_is, constraint_lines_is, rules_back, constraints_back)

-- ---- what the loader answers, taken apart

-- which check it stopped at
pub data Answered (bytes : List ℕ) : Type 0 where
  early : RefusedEarly (load bytes) → Answered bytes
  weighted : Checked bytes → weights_right (words_of bytes) ≡ false → load bytes ≡ Err (refusal Fault.ImageWeightedSum 0) → Answered bytes
  late : Weighed bytes → load bytes ≡ body_answer (form_byte (words_of bytes)) (rule_part (words_of bytes)) (constraint_part (words_of bytes)) (rule_lines (words_of bytes)) (constraint_lines (words_of bytes)) → Answered bytes

answered_early : (bytes : List ℕ) (fault : Fault) → 7 ≤ fault_number fault → fault_number fault ≤ 10 → load bytes ≡ Err (refusal fault 0) → Answered bytes
answered_early bytes fault from upto e = early (record { fault = fault; refused = e; from = from; upto = upto })

pub answered : (bytes : List ℕ) → Answered bytes
unfolding load load_words
answered bytes = grind (arith, answered_early bytes Fault.ImageSize, answered_early bytes Fault.ImageForm, answered_early bytes Fault.ImageCount, answered_early bytes Fault.ImageSum, weighted, late)

-- an image that is taken passed all checks, and both parts are lines
pub record Took (bytes : List ℕ) (contents : Contents) : Type 0 where
  pub checked : Weighed bytes
  pub form_is : contents.form ≡ form_byte (words_of bytes)
  pub rules_are : contents.parts.rules ≡ rule_part (words_of bytes)
  pub constraints_are : contents.parts.constraints ≡ constraint_part (words_of bytes)

pub took : (bytes : List ℕ) (contents : Contents) → load bytes ≡ Ok contents → Took bytes contents
took bytes contents e =
    let t = taken_parts bytes contents e in
    record {
      checked = record { checked = record { size = t.sized; form = t.known; count = t.counted; check = t.summed }; weights = t.weighed };
      form_is = rw t.same;
      rules_are = rw t.same;
      constraints_are = rw t.same;
    }

-- ---- whatever is taken is the image of the policy that it holds

pub whole_words : (n : ℕ) → well_sized n ≡ true → n % 4 ≡ 0
unfolding well_sized
whole_words n e = grind (arith, nat_tests)

module _ (bytes : List ℕ) (bounded : Bytes bytes) (contents : Contents) (taken : load bytes ≡ Ok contents) where
  t : Took bytes contents
  t = took bytes contents taken

  h : HeldParts bytes contents
  h = held_parts bytes contents taken

  -- its lines are valid, and not too many
  pub held_acceptable : Acceptable (form_byte (words_of bytes)) (policy_in bytes)
  held_acceptable = grind (arith, rules_allowed, h, length-map)

  abbrev read : List ℕ
  read = words_of bytes

  abbrev behind : ℕ
  behind = 1 + rule_words read + constraint_words read

  content_same : content_words (form_byte read) (policy_in bytes) ≡ take behind read
  unfolding content_words header_word rule_part_words constraint_part_words
  content_same =
      let room : behind ≤ length read = omega (arith, h.size) in
      rw (← h.rule_part_is.words, h.rules_are, ← h.constraint_part_is.words, h.constraints_are, rules_size read (rule_words read) (constraint_words read) room, constraints_size read (rule_words read) (constraint_words read) room, header_fields (get_or read 0 0) (words_below bytes bounded 0))
      (sym (content_of read (rule_words read) (constraint_words read) room))

  whole_same : image_words (form_byte read) (policy_in bytes) ≡ read
  unfolding image_words sums_to_zero weights_right
  whole_same = grind (arith, eqb-true, t, content_same, checks_found, words_below, h, take-append-drop)

  -- it is the image of the policy that it holds, byte for byte
  pub held_image : image_of (form_byte (words_of bytes)) (policy_in bytes) ≡ bytes
  unfolding image_of
  held_image = rw whole_same (bytes_of_words bytes bounded (whole_words (length bytes) t.checked.checked.size))

  -- and of a form that is known
  pub held_form : known_form (form_byte (words_of bytes)) ≡ true
  held_form = t.checked.checked.form

  -- the parts of a taken image are the words of its policy
  pub taken_rules : contents.parts.rules ≡ rule_part_words (policy_in bytes)
  unfolding rule_part_words
  taken_rules = h.rule_part_is.words

  pub taken_constraints : contents.parts.constraints ≡ constraint_part_words (policy_in bytes)
  unfolding constraint_part_words
  taken_constraints = h.constraint_part_is.words

-- both ways together: the loader takes exactly the images of acceptable policies
pub exactly_images : (bytes : List ℕ) → Bytes bytes → ((contents : Contents) × (load bytes ≡ Ok contents)) ↔ IsImage bytes
exactly_images bytes bounded = (
  λ x. record { form = form_byte (words_of bytes); policy = policy_in bytes; known = held_form bytes bounded x.0 x.1; acceptable = held_acceptable bytes bounded x.0 x.1; same = held_image bytes bounded x.0 x.1 },
  λ x. (contents_of x.form x.policy, ap load (sym x.same) ∙ image_taken x.form x.known x.policy x.acceptable),
)

-- ---- why and where bytes are refused

module _ (ws : List ℕ) where
  rules_whole : (rs : List PolicyLine) → (rule_lines ws ≡ Ok rs) ↔ AreLines (form_byte ws) Part.Rules 128 (rule_part ws) rs
  unfolding part_lines
  rules_whole rs = part_whole_exactly (form_byte ws) Part.Rules 128 1 (rule_part ws) rs

  rules_refused : (location : ℕ) → (rule_lines ws ≡ Err location) ↔ NoLineAt (form_byte ws) Part.Rules 128 1 (rule_part ws) location
  unfolding part_lines
  rules_refused location = part_fault_exactly (form_byte ws) Part.Rules 128 1 (rule_part ws) location

  constraints_refused : (location : ℕ) → (constraint_lines ws ≡ Err location) ↔ NoLineAt (form_byte ws) Part.Constraints 64 (1 + rule_words ws) (constraint_part ws) location
  unfolding part_lines
  constraints_refused location = part_fault_exactly (form_byte ws) Part.Constraints 64 (1 + rule_words ws) (constraint_part ws) location

module _ (bytes : List ℕ) where
  -- each fault is told
  fault_given : (r : Refusal) → ImageFault bytes r → load bytes ≡ Err r
  unfolding load load_words body_answer
  fault_given r (wrong_size s) = rw s
  fault_given r (unknown_form s f) = rw (s, f)
  fault_given r (wrong_count s f c) = rw (s, f, c)
  fault_given r (wrong_sum s f c q) = rw (s, f, c, q)
  fault_given r (wrong_weights c w) = rw (c.size, c.form, c.count, c.check, w)
  fault_given r (no_rule c n h) = rw (c.checked.size, c.checked.form, c.checked.count, c.checked.check, c.weights, (rules_refused (words_of bytes) n).1 h)
  fault_given r (no_constraint c rs w n h) = rw (c.checked.size, c.checked.form, c.checked.count, c.checked.check, c.weights, (rules_whole (words_of bytes) rs).1 w, (constraints_refused (words_of bytes) n).1 h)

  -- and there is one wherever the loader refuses
  module _ (r : Refusal) (refused : load bytes ≡ Err r) where
    abbrev held : List ℕ
    held = words_of bytes

    told : (s : Refusal) → ImageFault bytes s → ImageFault bytes r
    told s f = grind (arith, fault_given)

    in_lines : Weighed bytes → (x y : Result (List PolicyLine) ℕ) → rule_lines held ≡ x → constraint_lines held ≡ y → ImageFault bytes r
    unfolding load load_words body_answer
    in_lines c (Err n) y p q = told _ (no_rule c n ((rules_refused held n).0 p))
    in_lines c (Ok rs) (Err n) p q = told _ (no_constraint c rs ((rules_whole held rs).0 p) n ((constraints_refused held n).0 q))
    in_lines c (Ok rs) (Ok cs) p q = absurd (cc (rw (c.checked.size, c.checked.form, c.checked.count, c.checked.check, c.weights, p, q) at refused))

    fault_found : (size form count check weigh : Bool) → well_sized (length bytes) ≡ size → known_form (form_byte held) ≡ form → counts_fit held ≡ count → sums_to_zero held ≡ check → weights_right held ≡ weigh → ImageFault bytes r
    fault_found false form count check weigh s f c q w = told _ (wrong_size s)
    fault_found true false count check weigh s f c q w = told _ (unknown_form s f)
    fault_found true true false check weigh s f c q w = told _ (wrong_count s f c)
    fault_found true true true false weigh s f c q w = told _ (wrong_sum s f c q)
    fault_found true true true true false s f c q w = told _ (wrong_weights (record { size = s; form = f; count = c; check = q }) w)
    fault_found true true true true true s f c q w = in_lines (record { checked = record { size = s; form = f; count = c; check = q }; weights = w }) (rule_lines held) (constraint_lines held) refl refl

  pub image_refused_exactly : (r : Refusal) → (load bytes ≡ Err r) ↔ ImageFault bytes r
  image_refused_exactly r = (λ e. fault_found r e _ _ _ _ _ refl refl refl refl refl, fault_given r)

  -- and no other fault
  pub one_image_fault : (r s : Refusal) → ImageFault bytes r → ImageFault bytes s → r ≡ s
  one_image_fault r s a b = cc (fault_given r a, fault_given s b)

-- fault 16 is given exactly where the checks 7 to 10 pass and the weighted sum is wrong
pub weights_exactly : (bytes : List ℕ) → (load bytes ≡ Err (refusal Fault.ImageWeightedSum 0)) ↔ (Checked bytes × (weights_right (words_of bytes) ≡ false))
weights_exactly bytes = (λ e. go _ ((image_refused_exactly bytes _).0 e) refl, λ x. fault_given bytes _ (wrong_weights x.0 x.1))
  where
    go : (r : Refusal) → ImageFault bytes r → fault_number r.fault ≡ 16 → Checked bytes × (weights_right (words_of bytes) ≡ false)
    go r (wrong_weights c w) n = (c, w)
    go r f n = absurd (omega arith)

-- ---- which refusals there are

-- a location in words that begin at the index `from` lies among them
among : (form : ℕ) (part : Part) (room from location : ℕ) (ws : List ℕ) → NoLineAt form part room from ws location → (from ≤ location) × (location < from + length ws)
among form part room from location ws h = omega (arith, h.located, h.more, ap length h.words, length-append h.front h.rest)

part_sizes : (words : List ℕ) → counts_fit words ≡ true → (1 + length (rule_part words) < length words) × (1 + rule_words words + length (constraint_part words) < length words)
part_sizes words c =
    let k = counted words c in
    let room : 1 + rule_words words + constraint_words words ≤ length words = omega (arith, k.all) in
    omega (arith, k.all, checks_few (form_byte words), rules_size words (rule_words words) (constraint_words words) room, constraints_size words (rule_words words) (constraint_words words) room)

pub refusals : (bytes : List ℕ) (r : Refusal) → load bytes ≡ Err r → RefusalOf (length (words_of bytes)) r
refusals bytes r e = go r ((image_refused_exactly bytes r).0 e)
  where
    go : (s : Refusal) → ImageFault bytes s → RefusalOf (length (words_of bytes)) s
    go s (wrong_size _) = of_checks refl (omega arith) (omega arith) refl
    go s (unknown_form _ _) = of_checks refl (omega arith) (omega arith) refl
    go s (wrong_count _ _ _) = of_checks refl (omega arith) (omega arith) refl
    go s (wrong_sum _ _ _ _) = of_checks refl (omega arith) (omega arith) refl
    go s (wrong_weights _ _) = of_weights refl refl refl
    go s (no_rule c n h) = let a = among _ _ _ _ n _ h in let z = part_sizes _ c.checked.count in of_body refl refl (omega (arith, a)) (omega (arith, a, z))
    go s (no_constraint c rs w n h) = let a = among _ _ _ _ n _ h in let z = part_sizes _ c.checked.count in of_body refl refl (omega (arith, a)) (omega (arith, a, z))

-- ---- one word changed

-- its words are the others and v; it has as many bytes
pub changed_words : (bytes : List ℕ) → Bytes bytes → (i v : ℕ) → v < word_limit → words_of (changed bytes i v) ≡ set (words_of bytes) i v
changed_words bytes bounded i v small = words_of_bytes (set (words_of bytes) i v) (set_below (words_of bytes) i v small (words_below bytes bounded))

pub changed_length : (bytes : List ℕ) (i v : ℕ) → length bytes % 4 ≡ 0 → length (changed bytes i v) ≡ length bytes
changed_length bytes i v aligned = omega (arith, bytes_length (set (words_of bytes) i v), length-set (words_of bytes) i v, words_length bytes)

same_word : (s s' old v : ℕ) → s' % word_limit ≡ 0 → s % word_limit ≡ 0 → s' + old ≡ s + v → v < word_limit → old < word_limit → v ≡ old
same_word s s' old v a b e h k = omega arith

-- bytes that pass the checks 7 to 10, with any other value in the location of one word, are refused under one of them
pub one_word_changed : (bytes : List ℕ) → Bytes bytes → Checked bytes → (i v : ℕ) → i < length (words_of bytes) → v < word_limit → ¬ (v ≡ word_at bytes i) → RefusedEarly (load (changed bytes i v))
unfolding sums_to_zero
one_word_changed bytes bounded ok i v l small other = grind (arith, answered, eqb-true, changed_words, same_word, sum_set, words_below)
