-- Chunks: their runs, one after another, and where two lists of runs meet.
use Rattle.std.proofs.Common.{◌≡◌, ◌≢◌, Bool, true, false, MatchBool, Some, ℕ, ◌+◌, ◌-◌, ◌<◌, ◌≤◌, min, List, [], ◌∷◌, ◌++◌, length, take, drop, get_or, set, refl, sym, ap, subst, ◌∙◌, arith, append_assoc, append-nil, length-append}
use Rattle.std.proofs.lemmas.List.{take-append-drop, take_more, take_rest, nil_from_length}
use Rattle.attributes.specs.Attributes.{Attributes}
use Rattle.delta.specs.Element.{Element}
use Rattle.document.specs.Chunks.{runs_of_chunks, units_of_chunks, IsChunk, AreSized, AreChunks}
use Rattle.document.specs.Runs.{units_of_runs, AreRuns, IsApart, TakesText, first_attributes, last_attributes, text_attributes}
use Rattle.document.specs.Weight.{weight_of}
use Rattle.document.proofs.Ended.{EndsIn, ends_in, last_attributes-last, apart_from_embed, units-taken}
use Rattle.document.proofs.Joined.{units_of_runs-append}
use Rattle.document.proofs.Weighing.{weight_of-append}

-- the runs of chunks
pub runs_of_chunks-append : (a b : List (List (List Element))) → runs_of_chunks (a ++ b) ≡ runs_of_chunks a ++ runs_of_chunks b
runs_of_chunks-append [] b = refl
runs_of_chunks-append (c ∷ a) b = ap (λ l. c ++ l) (runs_of_chunks-append a b) ∙ sym (append_assoc c (runs_of_chunks a) (runs_of_chunks b))

pub runs_of_chunks-last : (a : List (List (List Element))) (c : List (List Element)) → runs_of_chunks (a ++ c ∷ []) ≡ runs_of_chunks a ++ c
runs_of_chunks-last a c = runs_of_chunks-append a (c ∷ []) ∙ ap (λ l. runs_of_chunks a ++ l) (append-nil c)

pub units_of_chunks-append : (a b : List (List (List Element))) → units_of_chunks (a ++ b) ≡ units_of_chunks a ++ units_of_chunks b
units_of_chunks-append a b = ap units_of_runs (runs_of_chunks-append a b) ∙ units_of_runs-append (runs_of_chunks a) (runs_of_chunks b)

pub units_of_chunks-cons : (c : List (List Element)) (cs : List (List (List Element))) → units_of_chunks (c ∷ cs) ≡ units_of_runs c ++ units_of_chunks cs
units_of_chunks-cons c cs = units_of_runs-append c (runs_of_chunks cs)

-- one chunk more
pub units_of_chunks-more : (cs : List (List (List Element))) (i : ℕ) (c : List (List Element)) → i < length cs → c ≡ get_or cs i c
    → units_of_chunks (take (i + 1) cs) ≡ units_of_chunks (take i cs) ++ units_of_runs c
units_of_chunks-more cs i c within is =
    ap units_of_chunks (take_more cs i c within ∙ ap (λ x. take i cs ++ x ∷ []) (sym is))
    ∙ (units_of_chunks-append (take i cs) (c ∷ [])
    ∙ ap (λ l. units_of_chunks (take i cs) ++ l) (units_of_chunks-cons c [] ∙ append-nil (units_of_runs c)))

-- both parts of chunks of the right size
pub AreSized-append : (a b : List (List (List Element))) → AreSized a → AreSized b → AreSized (a ++ b)
AreSized-append [] b sa sb = sb
AreSized-append (c ∷ a) b sa sb = (sa.0, AreSized-append a b sa.1 sb)

pub AreSized-parts : (a b : List (List (List Element))) → AreSized (a ++ b) → AreSized a × AreSized b
AreSized-parts [] b sized = (tt, sized)
AreSized-parts (c ∷ a) b sized = let parts = AreSized-parts a b sized.1 in ((sized.0, parts.0), parts.1)

pub AreSized-take : (i : ℕ) (cs : List (List (List Element))) → AreSized cs → AreSized (take i cs)
AreSized-take i cs sized = (AreSized-parts (take i cs) (drop i cs) (subst AreSized (sym (take-append-drop i cs)) sized)).0

-- both parts of runs, and what stands apart where they meet
pub AreRuns-parts : (a b : List (List Element)) → AreRuns (a ++ b) → AreRuns a × AreRuns b
AreRuns-parts [] b runs = (tt, runs)
AreRuns-parts (r ∷ []) [] runs = (runs, tt)
AreRuns-parts (r ∷ []) (s ∷ b) runs = (runs.0, runs.1.1)
AreRuns-parts (r ∷ s ∷ a) b runs =
    let parts = AreRuns-parts (s ∷ a) b runs.1.1 in ((runs.0, (runs.1.0, parts.0)), parts.1)

pub AreRuns-joined : (a b : List (List Element)) → AreRuns a → AreRuns b → IsApart (last_attributes a) (first_attributes b) → AreRuns (a ++ b)
AreRuns-joined [] b ra rb apart = rb
AreRuns-joined (r ∷ []) [] ra rb apart = ra
AreRuns-joined (r ∷ []) (s ∷ b) ra rb apart = (ra, (apart, rb))
AreRuns-joined (r ∷ s ∷ a) b ra rb apart = (ra.0, (ra.1.0, AreRuns-joined (s ∷ a) b ra.1.1 rb apart))

pub apart_there : (a b : List (List Element)) → AreRuns (a ++ b) → IsApart (last_attributes a) (first_attributes b)
apart_there [] b runs = tt
apart_there (r ∷ []) [] runs = apart_from_embed (text_attributes r)
apart_there (r ∷ []) (s ∷ b) runs = runs.1.0
apart_there (r ∷ s ∷ a) b runs = apart_there (s ∷ a) b runs.1.1

-- both parts of chunks
pub AreChunks-parts : (a b : List (List (List Element))) → AreChunks (a ++ b) → AreChunks a × AreChunks b
AreChunks-parts a b chunks =
    let sized = AreSized-parts a b chunks.0 in
    let runs = AreRuns-parts (runs_of_chunks a) (runs_of_chunks b) (subst AreRuns (runs_of_chunks-append a b) chunks.1) in
    ((sized.0, runs.0), (sized.1, runs.1))

pub AreChunks-split : (i : ℕ) (cs : List (List (List Element))) → AreChunks cs → AreChunks (take i cs) × AreChunks (drop i cs)
AreChunks-split i cs chunks = AreChunks-parts (take i cs) (drop i cs) (subst AreChunks (sym (take-append-drop i cs)) chunks)

pub AreRuns-split : (i : ℕ) (rs : List (List Element)) → AreRuns rs → AreRuns (take i rs) × AreRuns (drop i rs)
AreRuns-split i rs runs = AreRuns-parts (take i rs) (drop i rs) (subst AreRuns (sym (take-append-drop i rs)) runs)

-- the last of runs, where some stand before it
pub last_attributes-append : (a b : List (List Element)) → 0 < length b → last_attributes (a ++ b) ≡ last_attributes b
last_attributes-append [] b some = refl
last_attributes-append (r ∷ []) [] some = absurd (omega (arith, some))
last_attributes-append (r ∷ []) (s ∷ b) some = refl
last_attributes-append (r ∷ s ∷ a) b some = last_attributes-append (s ∷ a) b some

-- the last of all runs is the last of the last chunk
pub last_of_chunks : (cs : List (List (List Element))) (c : List (List Element)) → EndsIn cs c → AreSized cs → last_attributes (runs_of_chunks cs) ≡ last_attributes c
last_of_chunks cs c ends sized =
    let some = (AreSized-parts ends.before (c ∷ []) (subst AreSized ends.parts sized)).1.0.0 in
    ap (λ l. last_attributes (runs_of_chunks l)) ends.parts
    ∙ (ap last_attributes (runs_of_chunks-last ends.before c) ∙ last_attributes-append (runs_of_chunks ends.before) c some)

-- a text that the last of some runs takes in is taken in with runs before them
pub TakesText-later : (before old new : List (List Element)) (more : List Element) (a : Attributes) → TakesText old new more a → TakesText (before ++ old) (before ++ new) more a
TakesText-later before old new more a takes = (
  before ++ takes.0,
  takes.1,
  ap (λ l. before ++ l) takes.2 ∙ sym (append_assoc before takes.0 (takes.1 ∷ [])),
  takes.3,
  ap (λ l. before ++ l) takes.4 ∙ sym (append_assoc before takes.0 ((takes.1 ++ more) ∷ [])),
)

-- how long the chunks before the next place are, and how much they weigh
pub length_chunks-more : (cs : List (List (List Element))) (i : ℕ) (c : List (List Element)) → i < length cs → c ≡ get_or cs i c
    → length (units_of_chunks (take (i + 1) cs)) ≡ length (units_of_chunks (take i cs)) + length (units_of_runs c)
length_chunks-more cs i c within is =
    ap length (units_of_chunks-more cs i c within is) ∙ length-append (units_of_chunks (take i cs)) (units_of_runs c)

pub length_chunks-before : (cs : List (List (List Element))) (i : ℕ) → length (units_of_chunks (take i cs)) ≤ length (units_of_chunks cs)
length_chunks-before cs i =
    omega (arith, ap (λ l. length (units_of_chunks l)) (take-append-drop i cs), ap length (units_of_chunks-append (take i cs) (drop i cs)), length-append (units_of_chunks (take i cs)) (units_of_chunks (drop i cs)))

pub weight_chunks-more : (cs : List (List (List Element))) (i : ℕ) (c : List (List Element)) → i < length cs → c ≡ get_or cs i c
    → weight_of (units_of_chunks (take (i + 1) cs)) ≡ weight_of (units_of_chunks (take i cs)) + weight_of (units_of_runs c)
weight_chunks-more cs i c within is =
    ap weight_of (units_of_chunks-more cs i c within is) ∙ weight_of-append (units_of_chunks (take i cs)) (units_of_runs c)

-- the last of lists that are read
pub last_read : (rs : List (List Element)) (n : ℕ) (r : List Element) → n + 1 ≡ length rs → r ≡ get_or rs n r → last_attributes rs ≡ text_attributes r
last_read rs n r at is =
    let e = ends_in rs n r (omega (arith, at)) is in ap last_attributes e.parts ∙ last_attributes-last e.before r

pub last_chunk_read : (cs : List (List (List Element))) (n : ℕ) (c : List (List Element)) → n + 1 ≡ length cs → c ≡ get_or cs n c → AreSized cs
    → last_attributes (runs_of_chunks cs) ≡ last_attributes c
last_chunk_read cs n c at is sized = last_of_chunks cs c (ends_in cs n c (omega (arith, at)) is) sized

-- a list that is read at its front
pub first_read : {X : Type 0} (xs : List X) (x : X) → 0 < length xs → x ≡ get_or xs 0 x → xs ≡ x ∷ take (length xs - 1) (drop 1 xs)
first_read [] x some is = absurd (omega (arith, some))
first_read (y ∷ xs) x some is = ap (λ z. z ∷ xs) (sym is) ∙ ap (λ l. x ∷ l) (sym (take_rest (y ∷ xs) 1))

-- the first of chunks, and those after it
pub entered_first : (rs r c : List (List Element)) (cs : List (List (List Element))) → length rs ≡ 0 → 0 < length cs → c ≡ get_or cs 0 c → r ≡ c → AreChunks cs
    → (units_of_runs r ++ units_of_chunks (take (length cs - 1) (drop 1 cs)) ≡ units_of_runs rs ++ units_of_chunks cs) × AreRuns r × AreChunks (take (length cs - 1) (drop 1 cs))
entered_first rs r c cs none some is same chunks =
    let rest = take (length cs - 1) (drop 1 cs) in
    let all : cs ≡ r ∷ rest = first_read cs c some is ∙ ap (λ x. x ∷ rest) (sym same) in
    let parts = subst AreChunks all chunks in
    let runs = AreRuns-parts r (runs_of_chunks rest) parts.1 in (
      sym (units_of_chunks-cons r rest) ∙ (ap units_of_chunks (sym all) ∙ ap (λ l. units_of_runs l ++ units_of_chunks cs) (sym (nil_from_length rs none))),
      runs.0,
      (parts.0.1, runs.1),
    )

pub sized_so_far : (old items cs : List (List (List Element))) (i : ℕ) → items ≡ old ++ take i cs → AreSized old → AreSized cs → AreSized items
sized_so_far old items cs i so before sized = subst AreSized (sym so) (AreSized-append old (take i cs) before (AreSized-take i cs sized))

-- parts of runs are no longer than all of them
pub length_runs-front : (a b : List (List Element)) → length (units_of_runs a) ≤ length (units_of_runs (a ++ b))
length_runs-front a b = omega (arith, ap length (units_of_runs-append a b), length-append (units_of_runs a) (units_of_runs b))

pub length_runs-back : (a b : List (List Element)) → length (units_of_runs b) ≤ length (units_of_runs (a ++ b))
length_runs-back a b = omega (arith, ap length (units_of_runs-append a b), length-append (units_of_runs a) (units_of_runs b))

-- loose runs that become a chunk
pub closed_runs : (made new : List (List (List Element))) (c front back old : List (List Element)) → new ≡ made ++ c ∷ [] → c ≡ front → front ++ back ≡ old
    → runs_of_chunks new ++ back ≡ runs_of_chunks made ++ old
closed_runs made new c front back old push same parts =
    ap (λ l. runs_of_chunks l ++ back) push
    ∙ (ap (λ l. l ++ back) (runs_of_chunks-last made c)
    ∙ (append_assoc (runs_of_chunks made) c back
    ∙ ap (λ l. runs_of_chunks made ++ l) (ap (λ l. l ++ back) same ∙ parts)))

pub closed_sized : (made new : List (List (List Element))) (c front : List (List Element)) → new ≡ made ++ c ∷ [] → c ≡ front → AreSized made → IsChunk front → AreSized new
closed_sized made new c front push same sized is_chunk =
    subst AreSized (sym push) (AreSized-append made (c ∷ []) sized (subst IsChunk (sym same) is_chunk, tt))

-- a chunk whose runs are loose again
pub popped_sized : (old new : List (List (List Element))) (c : List (List Element)) → old ≡ new ++ c ∷ [] → AreSized old → AreSized new
popped_sized old new c e sized = (AreSized-parts new (c ∷ []) (subst AreSized e sized)).0

pub taken_back : (old new : List (List (List Element))) (c runs all loose : List (List Element)) → old ≡ new ++ c ∷ [] → runs ≡ c → all ≡ runs ++ loose
    → runs_of_chunks new ++ all ≡ runs_of_chunks old ++ loose
taken_back old new c runs all loose e same put =
    ap (λ l. runs_of_chunks new ++ l) (put ∙ ap (λ l. l ++ loose) same)
    ∙ (sym (append_assoc (runs_of_chunks new) c loose) ∙ ap (λ l. l ++ loose) (sym (runs_of_chunks-last new c) ∙ ap runs_of_chunks (sym e)))

-- there is a run where the last one has attributes
pub some_last : (rs : List (List Element)) (a : Attributes) → last_attributes rs ≡ Some a → 0 < length rs
some_last [] a e = absurd (cc)
some_last (r ∷ rs) a e = omega arith

-- a text behind all runs, which the last of the loose ones takes in or not
pub merged_loose : (yes : Bool) (before old new : List (List Element)) (more : List Element) (a : Attributes) → 0 < length old
    → MatchBool yes (TakesText old new more a) ((last_attributes old ≢ Some a) × (new ≡ old))
    → MatchBool yes (TakesText (before ++ old) (before ++ new) more a) ((last_attributes (before ++ old) ≢ Some a) × (before ++ new ≡ before ++ old))
merged_loose true before old new more a some takes = TakesText-later before old new more a takes
merged_loose false before old new more a some missed = (
  λ e. missed.0 (sym (last_attributes-append before old some) ∙ e),
  ap (λ l. before ++ l) missed.1,
)

-- a chunk whose last run took a text in: how long it is, how much it weighs, and how many runs it has
pub taken_length : (yes : Bool) (old new : List (List Element)) (more : List Element) (a : Attributes) → last_attributes old ≡ Some a
    → MatchBool yes (TakesText old new more a) ((last_attributes old ≢ Some a) × (new ≡ old)) → length (units_of_runs new) ≡ length (units_of_runs old) + length more
taken_length true old new more a is takes = ap length (units-taken old new more a takes) ∙ length-append (units_of_runs old) more
taken_length false old new more a is missed = absurd (missed.0 is)

pub taken_measures : (yes : Bool) (old new : List (List Element)) (more : List Element) (a : Attributes) (units n weight w total m : ℕ) → last_attributes old ≡ Some a
    → MatchBool yes (TakesText old new more a) ((last_attributes old ≢ Some a) × (new ≡ old)) → IsChunk old → units ≡ length (units_of_runs old) → n ≡ length more
    → weight ≡ min (weight_of (units_of_runs old)) m → w ≡ min (weight_of more) m → total ≡ min (weight + w) m
    → (units + n ≡ length (units_of_runs new)) × (total ≡ min (weight_of (units_of_runs new)) m) × IsChunk new
taken_measures true old new more a units n weight w total m is takes is_chunk counted count weighs more_weighs sum =
    let same = units-taken old new more a takes in
    let runs : length new ≡ length old = ap length takes.4 ∙ (length-append takes.0 ((takes.1 ++ more) ∷ []) ∙ (sym (length-append takes.0 (takes.1 ∷ [])) ∙ sym (ap length takes.2))) in (
      omega (arith, ap length same, length-append (units_of_runs old) more, counted, count),
      omega (arith, ap weight_of same, weight_of-append (units_of_runs old) more, weighs, more_weighs, sum),
      (omega (arith, runs, is_chunk.0), omega (arith, runs, is_chunk.1)),
    )
taken_measures false old new more a units n weight w total m is missed is_chunk counted count weighs more_weighs sum = absurd (missed.0 is)

-- chunks put behind those that are made, where no run is loose
pub put_behind : (closed all cs : List (List (List Element))) (loose runs : List (List Element)) → loose ≡ [] → all ≡ closed ++ cs → runs_of_chunks closed ≡ runs
    → runs_of_chunks all ++ loose ≡ runs ++ runs_of_chunks cs
put_behind closed all cs loose runs none put same =
    ap (λ l. runs_of_chunks all ++ l) none
    ∙ (append-nil (runs_of_chunks all)
    ∙ (ap runs_of_chunks put ∙ (runs_of_chunks-append closed cs ∙ ap (λ l. l ++ runs_of_chunks cs) same)))

-- the first of lists that are read
pub first_is : (rs : List (List Element)) (r : List Element) → 0 < length rs → r ≡ get_or rs 0 r → first_attributes rs ≡ text_attributes r
first_is [] r some is = absurd (omega (arith, some))
first_is (s ∷ rs) r some is = ap text_attributes (sym is)

pub first_of_chunk : (c rs : List (List Element)) → 0 < length c → first_attributes (c ++ rs) ≡ first_attributes c
first_of_chunk [] rs some = absurd (omega (arith, some))
first_of_chunk (r ∷ c) rs some = refl

pub first_of_chunks : (cs : List (List (List Element))) (c : List (List Element)) → 0 < length cs → c ≡ get_or cs 0 c → AreSized cs → first_attributes (runs_of_chunks cs) ≡ first_attributes c
first_of_chunks [] c some is sized = absurd (omega (arith, some))
first_of_chunks (d ∷ cs) c some is sized = first_of_chunk d (runs_of_chunks cs) sized.0.0 ∙ ap first_attributes (sym is)

-- runs put behind others that they don't merge with
pub extended : (old new more : List (List Element)) → new ≡ old ++ more → AreRuns old → AreRuns more → IsApart (last_attributes old) (first_attributes more)
    → (units_of_runs new ≡ units_of_runs old ++ units_of_runs more) × AreRuns new
extended old new more put before behind apart = (
  ap units_of_runs put ∙ units_of_runs-append old more,
  subst AreRuns (sym put) (AreRuns-joined old more before behind apart),
)

last_behind : (mid rest : List (List Element)) (r : List Element) → last_attributes mid ≡ text_attributes r → last_attributes (mid ++ rest) ≡ last_attributes (r ∷ rest)
last_behind mid [] r is = ap last_attributes (append-nil mid) ∙ is
last_behind mid (s ∷ rest) r is = last_attributes-append mid (s ∷ rest) (omega arith)

-- and behind a first one that does
pub extended_after : (old mid new rest more : List (List Element)) (r : List Element) → more ≡ r ∷ rest → units_of_runs mid ≡ units_of_runs old ++ r → AreRuns mid
    → last_attributes mid ≡ text_attributes r → AreRuns more → new ≡ mid ++ rest
    → (units_of_runs new ≡ units_of_runs old ++ units_of_runs more) × AreRuns new × (last_attributes new ≡ last_attributes more)
extended_after old mid new rest more r all units runs last behind put =
    let parts = subst AreRuns all behind in
    let apart = subst (λ o. IsApart o (first_attributes rest)) (sym last) (apart_there (r ∷ []) rest parts) in
    let whole = extended mid new rest put runs (AreRuns-parts (r ∷ []) rest parts).1 apart in (
      whole.0
          ∙ (ap (λ l. l ++ units_of_runs rest) units
          ∙ (append_assoc (units_of_runs old) r (units_of_runs rest) ∙ ap (λ l. units_of_runs old ++ units_of_runs l) (sym all))),
      whole.1,
      ap last_attributes put ∙ (last_behind mid rest r last ∙ ap last_attributes (sym all)),
    )

pub extended_chunks : (old mid new c : List (List Element)) (cs rest : List (List (List Element))) → cs ≡ c ∷ rest → units_of_runs mid ≡ units_of_runs old ++ units_of_runs c
    → AreRuns mid → last_attributes mid ≡ last_attributes c → AreChunks cs → new ≡ mid ++ runs_of_chunks rest
    → (units_of_runs new ≡ units_of_runs old ++ units_of_chunks cs) × AreRuns new
extended_chunks old mid new c cs rest all units runs last chunks put =
    let parts = (subst AreChunks all chunks).1 in
    let apart = subst (λ o. IsApart o (first_attributes (runs_of_chunks rest))) (sym last) (apart_there c (runs_of_chunks rest) parts) in
    let whole = extended mid new (runs_of_chunks rest) put runs (AreRuns-parts c (runs_of_chunks rest) parts).1 apart in (
      whole.0
          ∙ (ap (λ l. l ++ units_of_chunks rest) units
          ∙ (append_assoc (units_of_runs old) (units_of_runs c) (units_of_chunks rest)
          ∙ ap (λ l. units_of_runs old ++ l) (sym (units_of_chunks-cons c rest) ∙ ap units_of_chunks (sym all)))),
      whole.1,
    )

-- the first of chunks, which is their first runs
pub first_chunk : (cs : List (List (List Element))) (c r : List (List Element)) → 0 < length cs → c ≡ get_or cs 0 c → r ≡ c → cs ≡ r ∷ take (length cs - 1) (drop 1 cs)
first_chunk cs c r some is same = first_read cs c some is ∙ ap (λ x. x ∷ take (length cs - 1) (drop 1 cs)) (sym same)

pub first_chunk_runs : (cs rest : List (List (List Element))) (c : List (List Element)) → cs ≡ c ∷ rest → AreChunks cs → AreRuns c
first_chunk_runs cs rest c all chunks = (AreRuns-parts c (runs_of_chunks rest) (subst AreChunks all chunks).1).0

pub first_chunk_length : (cs rest : List (List (List Element))) (c : List (List Element)) → cs ≡ c ∷ rest → length (units_of_runs c) ≤ length (units_of_chunks cs)
first_chunk_length cs rest c all =
    omega (arith, ap (λ l. length (units_of_chunks l)) all, ap length (units_of_chunks-cons c rest), length-append (units_of_runs c) (units_of_chunks rest))

-- a single chunk that another takes the place of
pub one_set : (cs : List (List (List Element))) (c : List (List Element)) → length cs ≡ 1 → runs_of_chunks (set cs 0 c) ≡ c
one_set [] c one = absurd (omega (arith, one))
one_set (d ∷ []) c one = append-nil c
one_set (d ∷ e ∷ cs) c one = absurd (omega (arith, one))
