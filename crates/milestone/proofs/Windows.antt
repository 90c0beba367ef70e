-- Windows as cells spell them, in either format.
use Rattle.std.proofs.Common.{◌≡◌, ℕ, ◌+◌, ◌-◌, ◌^◌, ◌≤◌, ◌<◌, true, cond, List, [], ◌∷◌, ◌++◌, length, drop, get_or, None, refl, sym, ap, subst, ◌∙◌, arith, append_assoc, append-nil, length-append}
use Rattle.std.specs.Prelude.{◌&&◌, nat_lt, nat_le, slice_get, unwrap_or}
use Rattle.std.specs.Int.{w64}
use Rattle.std.specs.List.{flat_map}
use Rattle.std.proofs.lemmas.Bool.{and_parts, and_from, leb-true, ltb-true, le-leb, lt-ltb, eqb-true}
use Rattle.std.proofs.lemmas.List.Concat.{flat_map-append}
use Rattle.revision.specs.Window.{longest, Window, last_revision, ascend}
use Rattle.revision.specs.State.{last_of_all, is_window}
use Rattle.journal.specs.Spelling.{number}
use Rattle.journal.proofs.CallerLemmas.{one_number64_spelling}
use Rattle.milestone.specs.CellSpelling.{Format, One, Two, window}
use Rattle.milestone.specs.steps.Reading.{BeginsNone, IsAbove, IsWithin, IsCount, AreRevisions, revisions_bytes, IsWindowIn}

-- ---- what a window has

-- a window as a source may have it at a revision
pub record IsSound (revision : ℕ) (window : Window) : Type 0 where
  pub some : 1 ≤ length window.revisions
  pub short : length window.revisions ≤ longest
  pub within : length window.revisions ≤ window.number
  pub last : window.number ≤ last_of_all
  pub up : ascend 0 revision window.revisions ≡ true

pub sound : (revision : ℕ) (window : Window) → is_window revision window ≡ true → IsSound revision window
sound revision window h = by_list window.number window.revisions h
  where
    by_list : (number : ℕ) (revisions : List ℕ)
        → (nat_le 1 (length revisions) && nat_le (length revisions) longest && nat_le (length revisions) number && nat_le number last_of_all && ascend 0 revision revisions) ≡ true
        → IsSound revision (record { number = number; revisions = revisions })
    by_list number revisions h =
        let fifth = and_parts (nat_le 1 (length revisions) && nat_le (length revisions) longest && nat_le (length revisions) number && nat_le number last_of_all) (ascend 0 revision revisions) h in
        let fourth = and_parts (nat_le 1 (length revisions) && nat_le (length revisions) longest && nat_le (length revisions) number) (nat_le number last_of_all) fifth.0 in
        let third = and_parts (nat_le 1 (length revisions) && nat_le (length revisions) longest) (nat_le (length revisions) number) fourth.0 in
        let second = and_parts (nat_le 1 (length revisions)) (nat_le (length revisions) longest) third.0 in
        record {
          some = leb-true _ _ second.0;
          short = leb-true _ _ second.1;
          within = leb-true _ _ third.1;
          last = leb-true _ _ fourth.1;
          up = fifth.1;
        }

pub is_sound : (revision : ℕ) (window : Window) → IsSound revision window → is_window revision window ≡ true
is_sound revision window is =
    and_from _ _
    (and_from _ _
    (and_from _ _ (and_from _ _ (le-leb 1 (length window.revisions) is.some) (le-leb (length window.revisions) longest is.short)) (le-leb (length window.revisions) window.number is.within))
    (le-leb window.number last_of_all is.last))
    is.up

pub numbered : (revision : ℕ) (window : Window) → is_window revision window ≡ true → IsWithin last_of_all window.number
numbered revision window h = let is = sound revision window h in (omega (arith, is.some, is.within), is.last)

-- ---- windows of one number

abbrev pub one : ℕ → ℕ → Window
one number revision = record { number = number; revisions = revision ∷ [] }

pub last-of_one : (number revision : ℕ) → last_revision (one number revision) ≡ revision
last-of_one number revision =
    ap (λ b. unwrap_or (cond b (slice_get (revision ∷ []) (number + 1 - (number + 1))) None) 0) (lt-ltb number (number + 1) (omega arith))
    ∙ ap (λ i. unwrap_or (slice_get (revision ∷ []) i) 0) (first number)
  where
    first : (n : ℕ) → n + 1 - (n + 1) ≡ 0
    first n = omega arith

-- a window of one number is that of its last number, whose revision is in its range
pub record IsOfOne (revision : ℕ) (window : Window) : Type 0 where
  pub same : window ≡ one window.number (last_revision window)
  pub revised : IsWithin revision (last_revision window)

pub of_one : (revision : ℕ) (window : Window) → IsWindowIn One revision window → IsOfOne revision window
of_one revision window is = alone window.number window.revisions (eqb-true _ _ is.spelled) (sound revision window is.is).up
  where
    alone : (number : ℕ) (revisions : List ℕ) → length revisions ≡ 1 → ascend 0 revision revisions ≡ true → IsOfOne revision (record { number = number; revisions = revisions })
    alone number [] single up = absurd (omega (arith, single))
    alone number (first ∷ second ∷ others) single up = absurd (omega (arith, single))
    alone number (only ∷ []) single up =
        let here = last-of_one number only in
        let ends = and_parts (nat_lt 0 only && nat_le only revision) true up in
        let both = and_parts (nat_lt 0 only) (nat_le only revision) ends.0 in
        record {
          same = λ i. one number (sym here i);
          revised = (omega (arith, here, ltb-true 0 only both.0), omega (arith, here, leb-true only revision both.1));
        }

-- the window of one number in its ranges is such a one
pub one_is : (revision number only : ℕ) → IsWithin last_of_all number → IsWithin revision only → IsWindowIn One revision (one number only)
one_is revision number only numbered revised = record {
  is = is_sound revision (one number only) (record {
    some = omega arith;
    short = omega arith;
    within = omega (arith, numbered.0);
    last = numbered.1;
    up = and_from _ _ (and_from _ _ (lt-ltb 0 only (omega (arith, revised.0))) (le-leb only revision revised.1)) refl;
  });
  spelled = refl;
}

-- ---- the bytes of a window, part by part

pub one_parts : (w : Window) (x : List ℕ) → window One w ++ x ≡ number w64 w.number ++ (number w64 (last_revision w) ++ x)
unfolding window
one_parts w x = append_assoc (number w64 w.number) (number w64 (last_revision w)) x

pub more_parts : (w : Window) (x : List ℕ) → window Two w ++ x ≡ number w64 w.number ++ (length w.revisions ∷ (revisions_bytes w.revisions ++ x))
unfolding window
more_parts w x = append_assoc (number w64 w.number) (length w.revisions ∷ revisions_bytes w.revisions) x

-- where no last number begins the bytes no window does
pub no_number : (format : Format) (revision : ℕ) (bytes : List ℕ) → BeginsNone (number w64) (IsWithin last_of_all) bytes → BeginsNone (window format) (IsWindowIn format revision) bytes
no_number One revision bytes none w x is spelled = none w.number _ (numbered revision w is.is) (spelled ∙ one_parts w x)
no_number Two revision bytes none w x is spelled = none w.number _ (numbered revision w is.is) (spelled ∙ more_parts w x)

module _ (revision : ℕ) (bytes rest : List ℕ) (n : ℕ) (fits : n < 2 ^ 64) (there : bytes ≡ number w64 n ++ rest) (w : Window) (x : List ℕ) where
  pub behind_one : IsWindowIn One revision w → bytes ≡ window One w ++ x → (n ≡ w.number) × (rest ≡ number w64 (last_revision w) ++ x)
  behind_one is spelled =
      let inside = numbered revision w is.is in
      one_number64_spelling n w.number rest _ fits (omega (arith, inside.1)) (sym there ∙ spelled ∙ one_parts w x)

  pub behind_more : IsWindowIn Two revision w → bytes ≡ window Two w ++ x → (n ≡ w.number) × (rest ≡ length w.revisions ∷ (revisions_bytes w.revisions ++ x))
  behind_more is spelled =
      let inside = numbered revision w is.is in
      one_number64_spelling n w.number rest _ fits (omega (arith, inside.1)) (sym there ∙ spelled ∙ more_parts w x)

-- the first of two lists that are one, and the others
same_first : (a b : ℕ) (x y : List ℕ) → a ∷ x ≡ b ∷ y → a ≡ b
same_first a b x y same = ap (λ (l : List ℕ). get_or l 0 0) same

same_others : (a b : ℕ) (x y : List ℕ) → a ∷ x ≡ b ∷ y → x ≡ y
same_others a b x y same = ap (λ (l : List ℕ). drop 1 l) same

-- the count and the revisions of a window whose last number is known
pub count_is : (revision n : ℕ) (w : Window) → IsWindowIn Two revision w → n ≡ w.number → IsCount n (length w.revisions)
count_is revision n w is same =
    let has = sound revision w is.is in
    (has.some, has.short, omega (arith, has.within, same))

pub behind_count : (revision count : ℕ) (bytes rest x : List ℕ) (w : Window) → IsWindowIn Two revision w → bytes ≡ count ∷ rest → bytes ≡ length w.revisions ∷ (revisions_bytes w.revisions ++ x)
    → AreRevisions count revision w.revisions × (rest ≡ revisions_bytes w.revisions ++ x)
behind_count revision count bytes rest x w is there spelled =
    let same = sym there ∙ spelled in (
      record { counted = sym (same_first count (length w.revisions) rest (revisions_bytes w.revisions ++ x) same); up = (sound revision w is.is).up },
      same_others count (length w.revisions) rest (revisions_bytes w.revisions ++ x) same,
    )

-- ---- what was read

pub read_one : (revision given made : ℕ) (bytes named rest : List ℕ) → IsWithin last_of_all given → IsWithin revision made → bytes ≡ number w64 given ++ named
    → named ≡ number w64 made ++ rest → IsWindowIn One revision (one given made) × (bytes ≡ window One (one given made) ++ rest)
read_one revision given made bytes named rest numbered revised a b = (
  one_is revision given made numbered revised,
  a
      ∙ ap (λ (l : List ℕ). number w64 given ++ l) (b ∙ ap (λ n. number w64 n ++ rest) (sym (last-of_one given made)))
      ∙ sym (one_parts (one given made) rest),
)

pub read_more : (revision given count : ℕ) (w : Window) (bytes named counted rest : List ℕ) → IsWithin last_of_all given → IsCount given count → w.number ≡ given
    → AreRevisions count revision w.revisions → bytes ≡ number w64 given ++ named → named ≡ count ∷ counted → counted ≡ revisions_bytes w.revisions ++ rest
    → IsWindowIn Two revision w × (bytes ≡ window Two w ++ rest)
read_more revision given count w bytes named counted rest numbered is_count same are a b c = (
  record {
    is = is_sound revision w (record {
      some = omega (arith, are.counted, is_count.0);
      short = omega (arith, are.counted, is_count.1);
      within = omega (arith, are.counted, is_count.2, same);
      last = omega (arith, same, numbered.1);
      up = are.up;
    });
    spelled = refl;
  },
  a
      ∙ ap (λ (l : List ℕ). number w64 given ++ l) (b ∙ ap (λ (l : List ℕ). count ∷ l) c)
      ∙ (λ i. number w64 (sym same i) ++ (sym are.counted i ∷ (revisions_bytes w.revisions ++ rest)))
      ∙ sym (more_parts w rest),
)

-- ---- revisions, one by one

-- what is known of so many revisions, with some of them read: those that may still follow, and whatever the bytes spell
pub record AreRead (count high last : ℕ) (bytes rest : List ℕ) (revisions : List ℕ) : Type 0 where
  pub split : bytes ≡ revisions_bytes revisions ++ rest
  pub follow : (more : List ℕ) → ascend last high more ≡ true → ascend 0 high (revisions ++ more) ≡ true
  pub left : (all behind : List ℕ) → AreRevisions count high all → bytes ≡ revisions_bytes all ++ behind
      → (more : List ℕ) × (length revisions + length more ≡ count) × (ascend last high more ≡ true) × (rest ≡ revisions_bytes more ++ behind)

pub none_read : (count high : ℕ) (bytes : List ℕ) → AreRead count high 0 bytes bytes []
none_read count high bytes = record {
  split = refl;
  follow = λ more up. up;
  left = λ all behind are spelled. (all, omega (arith, are.counted), are.up, spelled);
}

module _ (count high last : ℕ) (bytes rest : List ℕ) (revisions : List ℕ) (low : high < 2 ^ 64) (read : AreRead count high last bytes rest revisions) where
  -- where more are wanted, and no number above the last one is there
  pub none_follows : length revisions < count → BeginsNone (number w64) (IsAbove last high) rest → BeginsNone revisions_bytes (AreRevisions count high) bytes
  none_follows few none all behind are spelled =
      let left = read.left all behind are spelled in
      further left.0 left.1 left.2 left.3
    where
      further : (more : List ℕ) → length revisions + length more ≡ count → ascend last high more ≡ true → rest ≡ revisions_bytes more ++ behind → ⊥
      further [] same up there = absurd (omega (arith, few, same))
      further (next ∷ more) same up there =
          let ends = and_parts (nat_lt last next && nat_le next high) (ascend next high more) up in
          let both = and_parts (nat_lt last next) (nat_le next high) ends.0 in
          none next (revisions_bytes more ++ behind) (ltb-true last next both.0, leb-true next high both.1)
          (there ∙ append_assoc (number w64 next) (revisions_bytes more) behind)

  -- one more is read
  pub one_follows : (next : ℕ) (after : List ℕ) → length revisions < count → IsAbove last high next → rest ≡ number w64 next ++ after
      → AreRead count high next bytes after (revisions ++ next ∷ [])
  one_follows next after few above there = record {
    split = read.split ∙ ap (λ (l : List ℕ). revisions_bytes revisions ++ l) there
        ∙ (sym (append_assoc (revisions_bytes revisions) (number w64 next) after) ∙ ap (λ (l : List ℕ). l ++ after) (sym more_bytes));
    follow = λ more up.
        ap (ascend 0 high) (append_assoc revisions (next ∷ []) more)
        ∙ read.follow (next ∷ more) (and_from _ _ (and_from _ _ (lt-ltb last next above.0) (le-leb next high above.1)) up);
    left = λ all behind are spelled.
        let left = read.left all behind are spelled in
        further left.0 behind left.1 left.2 left.3;
  }
    where
      more_bytes : revisions_bytes (revisions ++ next ∷ []) ≡ revisions_bytes revisions ++ number w64 next
      more_bytes = flat_map-append (number w64) revisions (next ∷ []) ∙ ap (λ (l : List ℕ). revisions_bytes revisions ++ l) (append-nil (number w64 next))

      further : (more behind : List ℕ) → length revisions + length more ≡ count → ascend last high more ≡ true → rest ≡ revisions_bytes more ++ behind
          → (others : List ℕ) × (length (revisions ++ next ∷ []) + length others ≡ count) × (ascend next high others ≡ true) × (after ≡ revisions_bytes others ++ behind)
      further [] behind same up spelled = absurd (omega (arith, few, same))
      further (first ∷ others) behind same up spelled =
          let ends = and_parts (nat_lt last first && nat_le first high) (ascend first high others) up in
          let both = and_parts (nat_lt last first) (nat_le first high) ends.0 in
          let inside = leb-true first high both.1 in
          let heads = one_number64_spelling next first after (revisions_bytes others ++ behind) (omega (arith, low, above.1)) (omega (arith, low, inside))
          (sym there ∙ spelled ∙ append_assoc (number w64 first) (revisions_bytes others) behind) in (
            others,
            omega (arith, same, length-append revisions (next ∷ [])),
            subst (λ n. ascend n high others ≡ true) (sym heads.0) ends.1,
            heads.1,
          )

  -- all were read
  pub all_follow : length revisions ≡ count → AreRevisions count high revisions × (bytes ≡ revisions_bytes revisions ++ rest)
  all_follow same = (
    record { counted = same; up = ap (ascend 0 high) (sym (append-nil revisions)) ∙ read.follow [] refl },
    read.split,
  )

-- ---- one spelling

one_numbers : (high : ℕ) → high < 2 ^ 64 → (low under : ℕ) (a b x y : List ℕ) → ascend low high a ≡ true → ascend under high b ≡ true → length a ≡ length b
    → revisions_bytes a ++ x ≡ revisions_bytes b ++ y → (a ≡ b) × (x ≡ y)
one_numbers high fits low under [] [] x y up_a up_b long same = (refl, same)
one_numbers high fits low under [] (q ∷ b) x y up_a up_b long same = absurd (omega (arith, long))
one_numbers high fits low under (p ∷ a) [] x y up_a up_b long same = absurd (omega (arith, long))
one_numbers high fits low under (p ∷ a) (q ∷ b) x y up_a up_b long same =
    let ends_a = and_parts (nat_lt low p && nat_le p high) (ascend p high a) up_a in
    let ends_b = and_parts (nat_lt under q && nat_le q high) (ascend q high b) up_b in
    let in_a = leb-true p high (and_parts (nat_lt low p) (nat_le p high) ends_a.0).1 in
    let in_b = leb-true q high (and_parts (nat_lt under q) (nat_le q high) ends_b.0).1 in
    let heads = one_number64_spelling p q (revisions_bytes a ++ x) (revisions_bytes b ++ y) (omega (arith, fits, in_a)) (omega (arith, fits, in_b))
    (sym (append_assoc (number w64 p) (revisions_bytes a) x) ∙ same ∙ append_assoc (number w64 q) (revisions_bytes b) y) in
    let others = one_numbers high fits p q a b x y ends_a.1 ends_b.1 (omega (arith, long)) heads.1 in
    (λ i. heads.0 i ∷ others.0 i, others.1)

pub one_window : (format : Format) (revision : ℕ) → revision < 2 ^ 64 → (a b : Window) (x y : List ℕ) → IsWindowIn format revision a → IsWindowIn format revision b
    → window format a ++ x ≡ window format b ++ y → (a ≡ b) × (x ≡ y)
one_window One revision low a b x y is_a is_b same =
    let in_a = numbered revision a is_a.is in
    let one_a = of_one revision a is_a in
    let one_b = of_one revision b is_b in
    let numbers = behind_one revision (window One a ++ x) _ a.number (omega (arith, in_a.1)) (one_parts a x) b y is_b same in
    let revisions = one_number64_spelling (last_revision a) (last_revision b) x y (omega (arith, low, one_a.revised.1)) (omega (arith, low, one_b.revised.1)) numbers.1 in
    (one_a.same ∙ (λ i. one (numbers.0 i) (revisions.0 i)) ∙ sym one_b.same, revisions.1)
one_window Two revision low a b x y is_a is_b same =
    let in_a = numbered revision a is_a.is in
    let numbers = behind_more revision (window Two a ++ x) _ a.number (omega (arith, in_a.1)) (more_parts a x) b y is_b same in
    let counts = same_first (length a.revisions) (length b.revisions) (revisions_bytes a.revisions ++ x) (revisions_bytes b.revisions ++ y) numbers.1 in
    let others = same_others (length a.revisions) (length b.revisions) (revisions_bytes a.revisions ++ x) (revisions_bytes b.revisions ++ y) numbers.1 in
    let lists = one_numbers revision low 0 0 a.revisions b.revisions x y (sound revision a is_a.is).up (sound revision b is_b.is).up counts others in
    (λ i. record { number = numbers.0 i; revisions = lists.0 i }, lists.1)
