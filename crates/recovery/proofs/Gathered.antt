-- The milestones that are gathered for a group, and the table by which they are.
use Rattle.std.proofs.Common.{◌≡◌, ◌≢◌, ◌⊎◌, inl, inr, ℕ, zero, suc, ◌+◌, ◌≤◌, ◌<◌, true, false, Bool, List, [], ◌∷◌, ◌++◌, filter, length, take, get_or, set, replicate, max, refl, sym, ◌∙◌, ap, subst, arith}
use Rattle.std.specs.Prelude.{nat_lt, cond, ◌==◌, ◌||◌, Result, Ok, Err, IsErrAnd, IsErrOf}
use Rattle.std.proofs.lemmas.Bool.{cases_eq, false≢true}
use Rattle.std.proofs.lemmas.Bool.Decides.{nat_tests}
use Rattle.std.proofs.lemmas.List.{take-append-le, take_all, length-append, length-replicate, get_or-replicate}
use Rattle.std.proofs.lemmas.List.Filters.{length-filter_more}
use Rattle.disk.specs.declared.device.Disk.{Ghosts}
use Rattle.refusal.specs.declared.Refusal.{Refusal}
use Rattle.refusal.specs.declared.Refusal.TheVariants.{StillNeeded, NoMemory, Fault}
use Rattle.recovery.specs.declared.group.Member.{Member}
use Rattle.recovery.specs.declared.marks.Mark.{Mark}
use Rattle.recovery.specs.declared.store.Store.{Store}
use Rattle.recovery.specs.Freed.{bytes_at}
use Rattle.recovery.specs.Open.{state_of}
use Rattle.recovery.specs.Marks.{is_of, within_segment, greatest_marked}
use Rattle.recovery.specs.steps.Freeing.{count_marked, IsGathered}
use Rattle.recovery.specs.steps.Group.{is_in, AreDistinct, Each, IsNewestOf}
use Rattle.recovery.proofs.Covering.{low_or_above, next_mark, marks_more, own_revision, no_revision}
use Rattle.recovery.proofs.FullGroups.{bytes_next, bytes_push, newest_bytes}
use Rattle.recovery.proofs.Members.{is_in_push}
use Rattle.recovery.proofs.Refusals.{refusal_or}

get_first : {A : Type 0} (xs ys : List A) (k : ℕ) (x : A) → k < length xs → get_or (xs ++ ys) k x ≡ get_or xs k x
get_first [] ys k x inside = absurd (omega (arith, inside))
get_first (first ∷ others) ys zero x inside = refl
get_first (first ∷ others) ys (suc k) x inside = get_first others ys k x (omega (arith, inside))

get_last : {A : Type 0} (xs : List A) (y x : A) → get_or (xs ++ y ∷ []) (length xs) x ≡ y
get_last [] y x = refl
get_last (first ∷ others) y x = get_last others y x

-- one member more
pub each_push : (ms : List Member) (m : Member) (P : Member → Type 0) → Each ms P → P m → Each (ms ++ m ∷ []) P
each_push [] m P each has zero x inside is = subst P is has
each_push [] m P each has (suc k) x inside is = absurd (omega (arith, inside))
each_push (first ∷ others) m P each has zero x inside is = each 0 x (omega arith) is
each_push (first ∷ others) m P each has (suc k) x inside is =
    each_push others m P (λ j y below at. each (suc j) y (omega (arith, below)) at) has k x (omega (arith, inside)) is

pub distinct_push : (ms : List Member) (m : Member) → AreDistinct ms → is_in ms m.document ≡ false → AreDistinct (ms ++ m ∷ [])
distinct_push ms m distinct away k x inside is = elim (low_or_above (length ms) k) [
  | inr below ↦
      ap (λ (l : List Member). is_in l x.document) (take-append-le k ms (m ∷ []) (omega (arith, below)))
      ∙ distinct k x below (sym (get_first ms (m ∷ []) k x below) ∙ is)
  | inl above ↦
      let last : k ≡ length ms = omega (arith, above, inside, length-append ms (m ∷ [])) in
      let same : m ≡ x = sym (get_last ms m x) ∙ (ap (λ (n : ℕ). get_or (ms ++ m ∷ []) n x) (sym last) ∙ is) in
      ap (λ (l : List Member). is_in l x.document) (take-append-le k ms (m ∷ []) (omega (arith, last)) ∙ take_all k ms above)
      ∙ (ap (λ (y : Member). is_in ms y.document) (sym same) ∙ away)
]

-- how many are marked
pub count_next : (marked : List ℕ) (i : ℕ) → i < length marked → count_marked (take (i + 1) marked) ≡ count_marked (take i marked) + cond (nat_lt 0 (get_or marked i 0)) 1 0
count_next marked i inside = length-filter_more (nat_lt 0) marked i 0 inside

module _ {D : Type 0} {disk : Ghosts D} (store : Store D disk) (marked : List ℕ) (from : ℕ) where
  pub gathered_none : IsGathered marked from from [] store
  gathered_none = record {
    group = record { distinct = λ k m inside is. absurd (omega (arith, inside)); newest = λ k m inside is. absurd (omega (arith, inside)) };
    each = λ n behind below some. absurd (omega (arith, behind, below));
    only = λ n is. absurd (false≢true is);
    count = omega arith;
    bytes = omega arith;
  }

  module _ (document : ℕ) (ms : List Member) (inside : document < length marked) (so_far : IsGathered marked from document ms store) where
    -- one that isn't marked is passed
    pub gathered_pass : get_or marked document 0 ≡ 0 → IsGathered marked from (document + 1) ms store
    gathered_pass none = record {
      group = so_far.group;
      each = λ n behind below some. elim (cases_eq n document) [
        | inl same ↦ absurd (omega (arith, some, none, ap (λ k. get_or marked k 0) same))
        | inr apart ↦ so_far.each n behind (omega (arith, below, apart)) some
      ];
      only = λ n is. let one = so_far.only n is in (one.0, omega (arith, one.1), one.2);
      count = omega (arith, so_far.count, count_next marked document inside, ap {B = ℕ} (λ n. cond (nat_lt 0 n) 1 0) none);
      bytes = omega (
        arith,
        so_far.bytes,
        bytes_next marked (state_of store) document,
        ap {B = ℕ} (λ n. cond (nat_lt 0 n) (bytes_at (state_of store) document) 0) none,
      );
    }

    -- and the milestone of another one comes to them
    pub gathered_push : (m : Member) → from ≤ document → 1 ≤ get_or marked document 0 → m.document ≡ document → IsNewestOf store m
        → IsGathered marked from (document + 1) (ms ++ m ∷ []) store
    gathered_push m behind some is newest = record {
      group = record { distinct = distinct_push ms m so_far.group.distinct away; newest = each_push ms m (IsNewestOf store) so_far.group.newest newest };
      each = λ n above below more. elim (cases_eq m.document n) [
        | inl same ↦ is_in_push ms m n ∙ (ap (λ (b : Bool). is_in ms n || b) (test n same) ∙ all (is_in ms n))
        | inr apart ↦ is_in_push ms m n ∙ ap (λ (b : Bool). b || (m.document == n)) (so_far.each n above (omega (arith, below, apart, is)) more)
      ];
      only = λ n own. elim (cases_eq m.document n) [
        | inl same ↦
            let there : n ≡ document = sym same ∙ is in
            (omega (arith, there, behind), omega (arith, there), omega (arith, some, ap (λ k. get_or marked k 0) there))
        | inr apart ↦
            let one = so_far.only n (first n apart own) in (one.0, omega (arith, one.1), one.2)
      ];
      count = omega (arith, so_far.count, count_next marked document inside, length-append ms (m ∷ []), ap {B = ℕ} (λ (b : Bool). cond b 1 0) marked_one);
      bytes = omega (
        arith,
        so_far.bytes,
        bytes_next marked (state_of store) document,
        bytes_push ms m,
        newest_bytes store m newest,
        ap (λ k. bytes_at (state_of store) k) is,
        ap {B = ℕ} (λ (b : Bool). cond b (bytes_at (state_of store) document) 0) marked_one,
      );
    }
      where
        away : is_in ms m.document ≡ false
        away = off (is_in ms m.document) refl
          where
            off : (b : Bool) → is_in ms m.document ≡ b → is_in ms m.document ≡ false
            off true own = absurd (omega (arith, is, (so_far.only m.document own).1))
            off false own = own

        test : (n : ℕ) → m.document ≡ n → (m.document == n) ≡ true
        test n same = grind (arith, nat_tests)

        all : (b : Bool) → (b || true) ≡ true
        all true = refl
        all false = refl

        none : (b : Bool) → (b || false) ≡ b
        none true = refl
        none false = refl

        first : (n : ℕ) → m.document ≢ n → is_in (ms ++ m ∷ []) n ≡ true → is_in ms n ≡ true
        first n apart own =
            let differ : (m.document == n) ≡ false = grind (arith, nat_tests) in
            sym (none (is_in ms n)) ∙ (ap (λ (b : Bool). is_in ms n || b) (sym differ) ∙ (sym (is_in_push ms m n) ∙ own))

        marked_one : nat_lt 0 (get_or marked document 0) ≡ true
        marked_one = grind (arith, nat_tests)

-- a table of zeros has none marked
pub count_zeros : (count : ℕ) → count_marked (replicate count 0) ≡ 0
count_zeros zero = refl
count_zeros (suc count) = count_zeros count

one_head : (b : Bool) (x : ℕ) (xs : List ℕ) → (length xs ≤ length (cond b (x ∷ xs) xs)) × (length (cond b (x ∷ xs) xs) ≤ length xs + 1)
one_head true x xs = (omega arith, omega arith)
one_head false x xs = (omega arith, omega arith)

-- and one more at most where a number changes
pub count_set : (marked : List ℕ) (i v : ℕ) → count_marked (set marked i v) ≤ count_marked marked + 1
count_set [] i v = omega arith
count_set (x ∷ xs) zero v =
    omega (arith, (one_head (nat_lt 0 v) v (filter (nat_lt 0) xs)).1, (one_head (nat_lt 0 x) x (filter (nat_lt 0) xs)).0)
count_set (x ∷ xs) (suc i) v = by_test (nat_lt 0 x) (count_set xs i v)
  where
    by_test : (b : Bool) → count_marked (set xs i v) ≤ count_marked xs + 1
        → length (cond b (x ∷ filter (nat_lt 0) (set xs i v)) (filter (nat_lt 0) (set xs i v))) ≤ length (cond b (x ∷ filter (nat_lt 0) xs) (filter (nat_lt 0) xs)) + 1
    by_test true low = omega (arith, low)
    by_test false low = low

-- a table has for each document what the first marks have
pub record IsTable (segment count : ℕ) (marks : List Mark) (marked : List ℕ) : Type 0 where
  pub as_many : length marked ≡ count
  pub each : (n : ℕ) → n < count → get_or marked n 0 ≡ greatest_marked segment n marks
  pub few : count_marked marked ≤ length (within_segment segment marks)

pub table_none : (segment count : ℕ) (marked : List ℕ) → marked ≡ replicate count 0 → IsTable segment count [] marked
table_none segment count marked zeros = record {
  as_many = ap (λ (l : List ℕ). length l) zeros ∙ length-replicate count 0;
  each = λ n below. ap (λ (l : List ℕ). get_or l n 0) zeros ∙ get_or-replicate count n 0 0 below;
  few = omega (arith, ap (λ (l : List ℕ). count_marked l) zeros, count_zeros count);
}

module _ (segment count place : ℕ) (marks : List Mark) (mark : Mark) (inside : place < length marks) (is : get_or marks place mark ≡ mark) (marked : List ℕ)
    (so_far : IsTable segment count (take place marks) marked) where
  pub table_pass : mark.segment ≢ segment → IsTable segment count (take (place + 1) marks) marked
  table_pass away = record {
    as_many = so_far.as_many;
    each = λ n below. omega (arith, so_far.each n below, next_mark segment n place marks mark inside is, no_revision segment n mark (inl away));
    few = omega (arith, so_far.few, marks_more segment place marks mark inside is);
  }

  pub table_more : (now : List ℕ) → mark.segment ≡ segment → length now ≡ length marked
      → (mark.document < length marked → get_or now mark.document 0 ≡ max (get_or marked mark.document 0) mark.revision)
      → ((n : ℕ) → n ≢ mark.document → get_or now n 0 ≡ get_or marked n 0) → count_marked now ≤ count_marked marked + 1 → IsTable segment count (take (place + 1) marks) now
  table_more now here same own others few = record {
    as_many = same ∙ so_far.as_many;
    each = λ n below. elim (cases_eq n mark.document) [
      | inl one ↦
          let raised = own (omega (arith, one, below, so_far.as_many)) in
          omega (
            arith,
            so_far.each n below,
            next_mark segment n place marks mark inside is,
            own_revision segment n mark here (sym one),
            raised,
            ap (λ k. get_or now k 0) one,
            ap (λ k. get_or marked k 0) one,
          )
      | inr apart ↦
          omega (arith, so_far.each n below, others n apart, next_mark segment n place marks mark inside is, no_revision segment n mark (inr (λ same. apart (sym same))))
    ];
    few =
        let test : is_of segment mark ≡ true = grind (arith, nat_tests) in
        omega (arith, so_far.few, few, marks_more segment place marks mark inside is, ap {B = ℕ} (λ (b : Bool). cond b 1 0) test);
  }

-- what gathering tells is no fault
pub told_fault : {A : Type 0} (refusal : Refusal) → (refusal ≡ StillNeeded) ⊎ (refusal ≡ NoMemory) → ¬ IsErrOf {T = A} {E = Refusal} (Err refusal) Fault
told_fault {A} refusal (inl is) told = let same : StillNeeded ≡ Fault = sym is ∙ ap (refusal_or {T = A} Fault) told in cc
told_fault {A} refusal (inr is) told = let same : NoMemory ≡ Fault = sym is ∙ ap (refusal_or {T = A} Fault) told in cc

pub told_memory : {A : Type 0} (result : Result A Refusal) → IsErrAnd result (λ e. e ≡ NoMemory) → ¬ IsErrOf result Fault
told_memory (Ok answer) memory told = memory
told_memory {A} (Err refusal) memory told = let same : NoMemory ≡ Fault = sym memory ∙ ap (refusal_or {T = A} Fault) told in cc

pub memory_or_needed : {A : Type 0} (refusal : Refusal) → IsErrOf {T = A} {E = Refusal} (Err refusal) StillNeeded → refusal ≡ StillNeeded
memory_or_needed {A} refusal told = ap (refusal_or {T = A} StillNeeded) told
