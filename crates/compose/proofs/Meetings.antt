-- Two operations on the same units, the second after the first: what they make, and what is left.
use Rattle.std.proofs.Common.{◌≡◌, ℕ, suc, ◌+◌, ◌-◌, ◌<◌, ◌≤◌, min, Bool, true, false, List, [], ◌∷◌, ◌++◌, length, take, drop, refl, sym, ap, subst, ◌∙◌, inr, ⊎_elim, arith}
use Rattle.std.specs.Prelude.{IsTrue, ◌&&◌, ◌||◌, slice_index}
use Rattle.std.specs.Char.Utf16.{is_high_surrogate, is_low_surrogate}
use Rattle.std.proofs.lemmas.List.{append-nil}
use Rattle.std.proofs.lemmas.Bool.{cases_lt, or_left}
use Rattle.std.proofs.Math.Seq.{take-length}
use Rattle.attributes.specs.Map.{empty}
use Rattle.attributes.specs.Attributes.{Attributes, Changes, changed}
use Rattle.delta.specs.Element.{Element, letters, embedded}
use Rattle.delta.specs.Operation.{Operation, insert_text, insert_embed, retain, delete, op_len, op_base, op_out, base_of, out_of, is_insert, is_delete, then_changed}
use Rattle.delta.specs.Gaps.{Gaps, End, Gap, Fate, Keep, Del, front, run, counted, joined}
use Rattle.delta.specs.Normal.{IsNormal, NoneIsEmpty, settled}
use Rattle.delta.proofs.CallerLemmas.{changed-empty, front-nil, joined-run, may_lead-text, built-parts, left_after-within, left_after-whole, left_after-append, normal-parts, normal-left, none_empty-left, length-left, length-whole, counted-cut, len-first, base-cut}
use Rattle.compose.specs.Places.{inserts}
use Rattle.compose.specs.Composed.{composed, kept_then}
use Rattle.compose.specs.steps.PairTest.{parts, cuts}
use Rattle.delta.specs.Parts.{first_units, left_after, EndsInPair}
use Rattle.compose.specs.steps.Stepping.{made_in_turn, IsStep, IsStepBefore, IsShorter}
use Rattle.compose.proofs.Alongside.{composed-empty, composed-front, composed-kept, composed-letters_kept, composed-letters_deleted}
use Rattle.compose.proofs.Pairs.{border, cuts-border, cuts-kept}
use Rattle.compose.proofs.OutParts.{out-cut}
use Rattle.compose.proofs.Borders.{inserts-front, fate_of, parts-next, border-apart, border-embed, border-within}
pub use Rattle.document.proofs.CallerLemmas.{length-letters, normal_some as some-first}

-- the first operation inserts or keeps, the second keeps or deletes
pub record DoMeet (op next : Operation) : Type 0 where
  pub stays : is_delete op ≡ false
  pub stands : is_insert next ≡ false

stays-first : (n : ℕ) (op next : Operation) → DoMeet op next → DoMeet (first_units n op) (first_units n next)
stays-first n (delete k) next h = absurd (let e = h.stays in cc)
stays-first n op (insert_text us a) h = absurd (let e = h.stands in cc)
stays-first n op (insert_embed key value a) h = absurd (let e = h.stands in cc)
stays-first n (insert_text us a) (retain k d) h = record { stays = refl; stands = refl }
stays-first n (insert_text us a) (delete k) h = record { stays = refl; stands = refl }
stays-first n (insert_embed key value a) (retain k d) h = record { stays = refl; stands = refl }
stays-first n (insert_embed key value a) (delete k) h = record { stays = refl; stands = refl }
stays-first n (retain m c) (retain k d) h = record { stays = refl; stands = refl }
stays-first n (retain m c) (delete k) h = record { stays = refl; stands = refl }

pub run-joined : (n : ℕ) (f : Fate) (k : Gaps) → joined (run n f (End [])) k ≡ run n f k
run-joined n f k = joined-run n f (End []) k ∙ ap (run n f) (front-nil k)

-- what they make stands before what the others make
pub composed-met : (op next : Operation) (ops rest : List Operation) → DoMeet op next → op_len next ≡ op_len op
    → composed (counted (op ∷ ops)) (counted (next ∷ rest)) ≡ joined (counted (made_in_turn op next)) (composed (counted ops) (counted rest))
composed-met (delete k) next ops rest h same = absurd (let e = h.stays in cc)
composed-met op (insert_text us a) ops rest h same = absurd (let e = h.stands in cc)
composed-met op (insert_embed key value a) ops rest h same = absurd (let e = h.stands in cc)
composed-met (insert_text us a) (retain k d) ops rest h same =
    ap (λ n. composed (front (letters us a) (counted ops)) (run n (Keep d) (counted rest))) same
    ∙ (composed-letters_kept us a d (counted ops) (counted rest)
    ∙ ap (λ l. front l (composed (counted ops) (counted rest))) (sym (append-nil (letters us (changed a d)))))
composed-met (insert_text us a) (delete k) ops rest h same =
    ap (λ n. composed (front (letters us a) (counted ops)) (run n Del (counted rest))) same
    ∙ (composed-letters_deleted us a (counted ops) (counted rest) ∙ sym (front-nil (composed (counted ops) (counted rest))))
composed-met (insert_embed key value a) (retain k d) ops rest h same =
    ap (λ n. composed (front (embedded key value a ∷ []) (counted ops)) (run n (Keep d) (counted rest))) same
    ∙ composed-front (embedded key value a ∷ []) (counted ops) (Gap [] (Keep d) (counted rest))
composed-met (insert_embed key value a) (delete k) ops rest h same =
    ap (λ n. composed (front (embedded key value a ∷ []) (counted ops)) (run n Del (counted rest))) same
    ∙ composed-front (embedded key value a ∷ []) (counted ops) (Gap [] Del (counted rest))
composed-met (retain m c) (retain k d) ops rest h same =
    ap (λ n. composed (run m (Keep c) (counted ops)) (run n (Keep d) (counted rest))) same
    ∙ (composed-kept m c (Keep d) (counted ops) (counted rest) ∙ sym (run-joined m (kept_then c (Keep d)) (composed (counted ops) (counted rest))))
composed-met (retain m c) (delete k) ops rest h same =
    ap (λ n. composed (run m (Keep c) (counted ops)) (run n Del (counted rest))) same
    ∙ (composed-kept m c Del (counted ops) (counted rest) ∙ sym (run-joined m Del (composed (counted ops) (counted rest))))

-- a retain without attributes leaves the other as it is
then-plain : (op : Operation) → then_changed op empty ≡ op
then-plain (insert_text us a) = ap (insert_text us) (changed-empty a)
then-plain (insert_embed key value a) = ap (insert_embed key value) (changed-empty a)
then-plain (retain m c) = ap (retain m) (composed-empty c)
then-plain (delete m) = refl

pub in_turn-plain : (op next : Operation) (n : ℕ) (d : Changes) → next ≡ retain n d → d ≡ empty → op ∷ [] ≡ made_in_turn op next
in_turn-plain op next n d is none =
    sym (ap (made_in_turn op) is ∙ (ap (λ c. then_changed op c ∷ []) none ∙ ap (λ o. o ∷ []) (then-plain op)))

-- where they end
abbrev pub border_of : Operation → List Element → Fate → Gaps → Bool
border_of (insert_text us a) ys f h = border (letters us a) ys f h
border_of (insert_embed key value a) ys f h = border (embedded key value a ∷ []) ys f h
border_of op ys f h = false

text-cuts : (us : List ℕ) (a : Attributes) (k : ℕ) (f : Fate) (g h : Gaps) → k ≡ length us
    → cuts (front (letters us a) g) (run k f h) ≡ (border (letters us a) (inserts g) f h || cuts g h)
text-cuts us a k f g h same =
    ap (λ n. cuts (front (letters us a) g) (run n f h)) (same ∙ sym (length-letters us a)) ∙ cuts-border (letters us a) g f h

pub cuts-met : (op next : Operation) (ops rest : List Operation) → DoMeet op next → op_len next ≡ op_len op
    → cuts (counted (op ∷ ops)) (counted (next ∷ rest)) ≡ (border_of op (inserts (counted ops)) (fate_of next) (counted rest) || cuts (counted ops) (counted rest))
cuts-met (delete k) next ops rest h same = absurd (let e = h.stays in cc)
cuts-met op (insert_text us a) ops rest h same = absurd (let e = h.stands in cc)
cuts-met op (insert_embed key value a) ops rest h same = absurd (let e = h.stands in cc)
cuts-met (insert_text us a) (retain k d) ops rest h same = text-cuts us a k (Keep d) (counted ops) (counted rest) same
cuts-met (insert_text us a) (delete k) ops rest h same = text-cuts us a k Del (counted ops) (counted rest) same
cuts-met (insert_embed key value a) (retain k d) ops rest h same =
    ap (λ n. cuts (front (embedded key value a ∷ []) (counted ops)) (run n (Keep d) (counted rest))) same
    ∙ cuts-border (embedded key value a ∷ []) (counted ops) (Keep d) (counted rest)
cuts-met (insert_embed key value a) (delete k) ops rest h same =
    ap (λ n. cuts (front (embedded key value a ∷ []) (counted ops)) (run n Del (counted rest))) same
    ∙ cuts-border (embedded key value a ∷ []) (counted ops) Del (counted rest)
cuts-met (retain m c) (retain k d) ops rest h same =
    ap (λ n. cuts (run m (Keep c) (counted ops)) (run n (Keep d) (counted rest))) same ∙ cuts-kept m c (Keep d) (counted ops) (counted rest)
cuts-met (retain m c) (delete k) ops rest h same =
    ap (λ n. cuts (run m (Keep c) (counted ops)) (run n Del (counted rest))) same ∙ cuts-kept m c Del (counted ops) (counted rest)

-- the units at the border of a text that is cut
border-cut : (n : ℕ) (us : List ℕ) (a : Attributes) (ops : List Operation) (f : Fate) (h : Gaps) → 0 < n → n < length us
    → border_of (first_units n (insert_text us a)) (inserts (counted (left_after n (insert_text us a) ops))) f h
    ≡ ((is_high_surrogate (slice_index us (n - 1)) && is_low_surrogate (slice_index us n)) && parts f h)
border-cut n us a ops f h some within =
    ap (λ l. border (letters (take n us) a) (inserts (counted l)) f h) (left_after-within n (insert_text us a) ops within)
    ∙ (ap (λ l. border (letters (take n us) a) l f h) (inserts-front (letters (drop n us) a) (counted ops))
    ∙ border-within n us a (inserts (counted ops)) f h some within)

none-there : (s t u : Bool) → ¬ ((s ≡ true) × (t ≡ true)) → ((s && t) && u) ≡ false
none-there true true u h = absurd (h (refl, refl))
none-there true false u h = refl
none-there false t u h = refl

all-there : (s t u : Bool) → s ≡ true → t ≡ true → u ≡ true → ((s && t) && u) ≡ true
all-there true true true p q r = refl
all-there false t u p q r = absurd (cc)
all-there true false u p q r = absurd (cc)
all-there true true false p q r = absurd (cc)

whole-text : (us : List ℕ) (a : Attributes) (ops : List Operation) (f : Fate) (h : Gaps) → IsNormal (insert_text us a ∷ ops) → border (letters us a) (inserts (counted ops)) f h ≡ false
whole-text us a ops f h normal =
    let built = built-parts (insert_text us a) ops (normal-parts (insert_text us a) ops normal).0 in
    border-apart us a ops f h (sym (may_lead-text us a ops) ∙ built.1) built.2

take-whole : (us : List ℕ) → take (length us) us ≡ us
take-whole us = take-length us

-- no pair stands there where the text isn't cut within one
pub border-none : (n : ℕ) (op : Operation) (ops : List Operation) (f : Fate) (h : Gaps) → IsNormal (op ∷ ops) → 0 < n → n ≤ op_len op → ¬ (EndsInPair n op)
    → border_of (first_units n op) (inserts (counted (left_after n op ops))) f h ≡ false
border-none n (insert_text us a) ops f h normal some within whole =
    ⊎_elim
    (λ (less : n < length us).
    border-cut n us a ops f h some less
    ∙ none-there (is_high_surrogate (slice_index us (n - 1))) (is_low_surrogate (slice_index us n)) (parts f h) (λ pair. whole (less, (some, pair.0, pair.1))))
    (λ (most : length us ≤ n).
    let same : n ≡ length us = omega arith in
    ap (λ k. border (letters (take k us) a) (inserts (counted (left_after k (insert_text us a) ops))) f h) same
    ∙ (ap (λ vs. border (letters vs a) (inserts (counted (left_after (length us) (insert_text us a) ops))) f h) (take-whole us)
    ∙ (ap (λ l. border (letters us a) (inserts (counted l)) f h) (left_after-whole (insert_text us a) ops) ∙ whole-text us a ops f h normal)))
    (cases_lt n (length us))
border-none n (insert_embed key value a) ops f h normal some within whole = border-embed key value a (inserts (counted (left_after n (insert_embed key value a) ops))) f h
border-none n (retain m c) ops f h normal some within whole = refl
border-none n (delete m) ops f h normal some within whole = refl

pub ends-within : (n : ℕ) (op : Operation) → EndsInPair n op → n < op_len op
ends-within n (insert_text us a) cut = cut.0
ends-within n (insert_embed key value a) cut = absurd cut
ends-within n (retain m c) cut = absurd cut
ends-within n (delete m) cut = absurd cut

-- and one is cut where it is
border-there : (n : ℕ) (op : Operation) (ops : List Operation) (f : Fate) (h : Gaps) → EndsInPair n op → parts f h ≡ true
    → border_of (first_units n op) (inserts (counted (left_after n op ops))) f h ≡ true
border-there n (insert_text us a) ops f h cut parted =
    border-cut n us a ops f h cut.1.0 cut.0
    ∙ all-there (is_high_surrogate (slice_index us (n - 1))) (is_low_surrogate (slice_index us n)) (parts f h) cut.1.1 cut.1.2 parted
border-there n (insert_embed key value a) ops f h cut parted = absurd cut
border-there n (retain m c) ops f h cut parted = absurd cut
border-there n (delete m) ops f h cut parted = absurd cut

-- the lengths of what they make
base-met : (op next : Operation) → base_of (made_in_turn op next) ≤ op_base op
base-met (insert_text us a) (retain n d) = omega arith
base-met (insert_embed key value a) (retain n d) = omega arith
base-met (retain m c) (retain n d) = omega arith
base-met (retain m c) (delete n) = omega arith
base-met (insert_text us a) (insert_text vs b) = omega arith
base-met (insert_text us a) (insert_embed other w b) = omega arith
base-met (insert_embed key value a) (insert_text vs b) = omega arith
base-met (insert_embed key value a) (insert_embed other w b) = omega arith
base-met (retain m c) (insert_text vs b) = omega arith
base-met (retain m c) (insert_embed other w b) = omega arith
base-met (delete m) (insert_text vs b) = omega arith
base-met (delete m) (insert_embed other w b) = omega arith
base-met (insert_text us a) (delete n) = omega arith
base-met (insert_embed key value a) (delete n) = omega arith
base-met (delete m) (retain n d) = omega arith
base-met (delete m) (delete n) = omega arith

-- a text that is kept is as long as the retain over it
out-met : (op next : Operation) → op_len op ≡ op_len next → out_of (made_in_turn op next) ≤ op_out next
out-met (insert_text us a) (retain n d) same = omega (arith, same)
out-met (insert_embed key value a) (retain n d) same = omega (arith, same)
out-met (retain m c) (retain n d) same = omega (arith, same)
out-met (retain m c) (delete n) same = omega arith
out-met (insert_text us a) (insert_text vs b) same = omega arith
out-met (insert_text us a) (insert_embed other w b) same = omega arith
out-met (insert_embed key value a) (insert_text vs b) same = omega arith
out-met (insert_embed key value a) (insert_embed other w b) same = omega arith
out-met (retain m c) (insert_text vs b) same = omega arith
out-met (retain m c) (insert_embed other w b) same = omega arith
out-met (delete m) (insert_text vs b) same = omega arith
out-met (delete m) (insert_embed other w b) same = omega arith
out-met (insert_text us a) (delete n) same = omega arith
out-met (insert_embed key value a) (delete n) same = omega arith
out-met (delete m) (retain n d) same = omega arith
out-met (delete m) (delete n) same = omega arith

pub some-min : (op next : Operation) (rest : List Operation) (n : ℕ) → 0 < op_len op → IsNormal (next ∷ rest) → n ≡ min (op_len op) (op_len next) → 0 < n
some-min op next rest n first second is_min = omega (arith, first, some-first next rest second)

pub shorter-met : (op next : Operation) (ops rest : List Operation) (n : ℕ) → n ≡ min (op_len op) (op_len next)
    → length (left_after n op ops) + length (left_after n next rest) < suc (length ops) + suc (length rest)
shorter-met op next ops rest n is_min =
    ⊎_elim
    (λ (less : op_len op < op_len next).
    let whole : n ≡ op_len op = omega arith in
    omega (arith, length-whole n op ops whole, length-left n next rest))
    (λ (more : op_len next ≤ op_len op).
    let whole : n ≡ op_len next = omega arith in
    omega (arith, length-whole n next rest whole, length-left n op ops))
    (cases_lt (op_len op) (op_len next))

pub IsStep-met : (op next : Operation) (ops rest : List Operation) (n : ℕ) → DoMeet op next → IsNormal (op ∷ ops) → IsNormal (next ∷ rest)
    → n ≡ min (op_len op) (op_len next) → ¬ (EndsInPair n op)
    → IsStep (op ∷ ops) (next ∷ rest) (made_in_turn (first_units n op) (first_units n next)) (left_after n op ops) (left_after n next rest)
IsStep-met op next ops rest n meet first second is_min whole =
    let some : 0 < n = some-min op next rest n (some-first op ops first) second is_min in
    let in_op : n ≤ op_len op = omega arith in
    let in_next : n ≤ op_len next = omega arith in
    let part : Operation = first_units n op in
    let then : Operation = first_units n next in
    let same : op_len then ≡ op_len part = len-first n next some in_next ∙ sym (len-first n op some in_op) in
    let cut_op : counted (op ∷ ops) ≡ counted (part ∷ left_after n op ops) = counted-cut n op ops some in_op in
    let cut_next : counted (next ∷ rest) ≡ counted (then ∷ left_after n next rest) = counted-cut n next rest some in_next in
    record {
      effect = ap settled
          (ap (λ g. composed g (counted (next ∷ rest))) cut_op
          ∙ (ap (composed (counted (part ∷ left_after n op ops))) cut_next
          ∙ composed-met part then (left_after n op ops) (left_after n next rest) (stays-first n op next meet) same));
      cut = ap (λ g. cuts g (counted (next ∷ rest))) cut_op
          ∙ (ap (cuts (counted (part ∷ left_after n op ops))) cut_next
          ∙ (cuts-met part then (left_after n op ops) (left_after n next rest) (stays-first n op next meet) same
          ∙ ap (λ t. t || cuts (counted (left_after n op ops)) (counted (left_after n next rest)))
          (border-none n op ops (fate_of then) (counted (left_after n next rest)) first some in_op whole)));
      normal = normal-left n op ops in_op first;
    }

IsShorter-met : (op next : Operation) (ops rest : List Operation) (n : ℕ) → NoneIsEmpty (op ∷ ops) → IsNormal (next ∷ rest) → n ≡ min (op_len op) (op_len next)
    → IsShorter (op ∷ ops) (next ∷ rest) (made_in_turn (first_units n op) (first_units n next)) (left_after n op ops) (left_after n next rest)
IsShorter-met op next ops rest n some second is_min =
    let some_n : 0 < n = some-min op next rest n some.0 second is_min in
    let in_op : n ≤ op_len op = omega arith in
    let in_next : n ≤ op_len next = omega arith in
    let part : Operation = first_units n op in
    let then : Operation = first_units n next in
    let same : op_len part ≡ op_len then = len-first n op some_n in_op ∙ sym (len-first n next some_n in_next) in
    record {
      first_some = none_empty-left n op ops some;
      second_normal = normal-left n next rest in_next second;
      first_ended = λ e. absurd (cc);
      second_ended = λ e. absurd (cc);
      base = omega (arith, base-met part then, base-cut n op ops in_op);
      out = inr (omega (arith, out-met part then same, out-cut n next rest some_n in_next));
      shorter = shorter-met op next ops rest n is_min;
    }

-- the same by equal operations, whatever follows the first list
-- the first units of the second make the same
pub in_turn-first : (n : ℕ) (op next : Operation) → made_in_turn op (first_units n next) ≡ made_in_turn op next
in_turn-first n op (insert_text us a) = refl
in_turn-first n op (insert_embed key value a) = refl
in_turn-first n op (retain m d) = refl
in_turn-first n (insert_text us a) (delete m) = refl
in_turn-first n (insert_embed key value a) (delete m) = refl
in_turn-first n (retain k c) (delete m) = refl
in_turn-first n (delete k) (delete m) = refl

pub met_made : (op next part : Operation) (ops rest made left_first left_second : List Operation) (n : ℕ) → is_delete op ≡ false → is_insert next ≡ false
    → IsNormal (next ∷ rest) → n ≡ min (op_len op) (op_len next) → ¬ (EndsInPair n op)
    → part ≡ first_units n op → made ≡ made_in_turn part next → left_first ≡ left_after n op ops → left_second ≡ left_after n next rest
    → IsStepBefore (op ∷ ops) (next ∷ rest) made left_first left_second
met_made op next part ops rest made left_first left_second n stays stands second is_min whole part_is made_is first_is second_is more first =
    let all : made ≡ made_in_turn (first_units n op) (first_units n next) = made_is ∙ (ap (λ o. made_in_turn o next) part_is ∙ sym (in_turn-first n (first_units n op) next)) in
    let left_is : left_first ++ more ≡ left_after n op (ops ++ more) = ap (λ l. l ++ more) first_is ∙ left_after-append n op ops more in
    subst (λ m. IsStep (op ∷ (ops ++ more)) (next ∷ rest) m (left_first ++ more) left_second) (sym all)
    (subst (λ l. IsStep (op ∷ (ops ++ more)) (next ∷ rest) (made_in_turn (first_units n op) (first_units n next)) l left_second) (sym left_is)
    (subst (λ l. IsStep (op ∷ (ops ++ more)) (next ∷ rest) (made_in_turn (first_units n op) (first_units n next)) (left_after n op (ops ++ more)) l) (sym second_is)
    (IsStep-met op next (ops ++ more) rest n (record { stays = stays; stands = stands }) first second is_min whole)))

pub met_shorter : (op next part : Operation) (ops rest made left_first left_second : List Operation) (n : ℕ) → NoneIsEmpty (op ∷ ops) → IsNormal (next ∷ rest)
    → n ≡ min (op_len op) (op_len next)
    → part ≡ first_units n op → made ≡ made_in_turn part next → left_first ≡ left_after n op ops → left_second ≡ left_after n next rest
    → IsShorter (op ∷ ops) (next ∷ rest) made left_first left_second
met_shorter op next part ops rest made left_first left_second n some second is_min part_is made_is first_is second_is =
    let all : made ≡ made_in_turn (first_units n op) (first_units n next) = made_is ∙ (ap (λ o. made_in_turn o next) part_is ∙ sym (in_turn-first n (first_units n op) next)) in
    subst (λ m. IsShorter (op ∷ ops) (next ∷ rest) m left_first left_second) (sym all)
    (subst (λ l. IsShorter (op ∷ ops) (next ∷ rest) (made_in_turn (first_units n op) (first_units n next)) l left_second) (sym first_is)
    (subst (λ l. IsShorter (op ∷ ops) (next ∷ rest) (made_in_turn (first_units n op) (first_units n next)) (left_after n op ops) l) (sym second_is)
    (IsShorter-met op next ops rest n some second is_min)))

-- a pair is cut where the first operation is cut within one
fate_of-first : (n : ℕ) (op : Operation) → fate_of (first_units n op) ≡ fate_of op
fate_of-first n (insert_text us a) = refl
fate_of-first n (insert_embed key value a) = refl
fate_of-first n (retain m c) = refl
fate_of-first n (delete m) = refl

pub pair_cut : (op next : Operation) (ops rest : List Operation) (n : ℕ) → is_delete op ≡ false → is_insert next ≡ false → IsNormal (op ∷ ops) → IsNormal (next ∷ rest)
    → n ≡ min (op_len op) (op_len next) → EndsInPair n op → IsTrue (cuts (counted (op ∷ ops)) (counted (next ∷ rest)))
pair_cut op next ops rest n stays stands first second is_min cut =
    let some : 0 < n = some-min op next rest n (some-first op ops first) second is_min in
    let within : n < op_len op = ends-within n op cut in
    let whole : n ≡ op_len next = omega arith in
    let part : Operation = first_units n op in
    let then : Operation = first_units n next in
    let same : op_len then ≡ op_len part = len-first n next some (omega arith) ∙ sym (len-first n op some (omega arith)) in
    let left_is : left_after n next rest ≡ rest = ap (λ k. left_after k next rest) whole ∙ left_after-whole next rest in
    let parted : parts (fate_of then) (counted (left_after n next rest)) ≡ true =
    ap (λ f. parts f (counted (left_after n next rest))) (fate_of-first n next) ∙ (ap (λ l. parts (fate_of next) (counted l)) left_is ∙ parts-next next rest second stands) in
    ap (λ g. cuts g (counted (next ∷ rest))) (counted-cut n op ops some (omega arith))
    ∙ (ap (cuts (counted (part ∷ left_after n op ops))) (counted-cut n next rest some (omega arith))
    ∙ (cuts-met part then (left_after n op ops) (left_after n next rest) (stays-first n op next (record { stays = stays; stands = stands })) same
    ∙ or_left (border_of part (inserts (counted (left_after n op ops))) (fate_of then) (counted (left_after n next rest))) (cuts (counted (left_after n op ops)) (counted (left_after n next rest)))
    (border-there n op ops (fate_of then) (counted (left_after n next rest)) cut parted)))
