-- Sources after one of them was noted or dropped.
use Rattle.std.proofs.Common.{◌≡◌, ℕ, zero, suc, Bool, true, false, cond, List, [], ◌∷◌, drop, Option, Some, None, Result, Ok, Err, ◌++◌, refl, sym, ap, ◌∙◌}
use Rattle.std.specs.Prelude.{is_some, unwrap_or, get_or}
use Rattle.std.proofs.Math.Seq.{get_or-append_seam}
use Rattle.std.specs.FinMap.Entries.{find}
use Rattle.std.specs.Result.{OnOk, OnErr}
use Rattle.std.specs.Cmp.{eq_by_cmp_equiv}
use Rattle.std.specs.Cmp.Lexicographic.{nat_list_cmp_total}
use Rattle.attributes.specs.Map.{by_bytes, get, insert}
use Rattle.attributes.specs.Place.{IsHere}
use Rattle.attributes.specs.Table.{is_name}
use Rattle.attributes.proofs.CallerLemmas.{same_name_from, same_map, get-insert, get-remove}
use Rattle.revision.specs.Window.{Window, nothing_taken, taken_as}
use Rattle.revision.specs.Sources.{Sources, window_of, with_entry, is_among, EqualBut}
use Rattle.std.proofs.lemmas.Bool.{or_from, or_parts}

chosen_twice : (b : Bool) (x y : Option Window) (z : Option Window) → cond b y (cond b x z) ≡ cond b y z
chosen_twice true x y z = refl
chosen_twice false x y z = refl

-- what stands at a name once one was given or taken away
get-entry : (source : List ℕ) (entry : Option Window) (sources : Sources) (name : List ℕ)
    → get (with_entry source entry sources) name ≡ cond (is_name name source) entry (get sources name)
get-entry source None sources name = get-remove sources source name
get-entry source (Some window) sources name = get-insert sources source window name

same_here : (b : Bool) (one other : Sources) (first name : List ℕ) → is_name name first ≡ b → (b ≡ false → get one name ≡ get other name)
    → get one name ≡ cond b (get one first) (get other name)
same_here true one other first name is further = ap (get one) (same_name_from name first is)
same_here false one other first name is further = further refl

-- a source that was noted is there, and all is unchanged once it's given what it had
pub there-noted : (source : List ℕ) (window : Window) (sources after : Sources) → after ≡ insert sources source window → is_some (get after source) ≡ true
there-noted source window sources after is =
    ap (λ (m : Sources). is_some (get m source)) is
    ∙ ap is_some (get-insert sources source window source ∙ ap (λ b. cond b (Some window) (get sources source)) ((eq_by_cmp_equiv nat_list_cmp_total).refl source))

pub put-back : (source : List ℕ) (window : Window) (sources after : Sources) → after ≡ insert sources source window → with_entry source (get sources source) after ≡ sources
put-back source window sources after is =
    same_map _ _ (λ name. get-entry source (get sources source) after name
    ∙ (ap (λ (m : Sources). cond (is_name name source) (get sources source) (get m name)) is
    ∙ (ap (cond (is_name name source) (get sources source)) (get-insert sources source window name)
    ∙ (chosen_twice (is_name name source) (Some window) (get sources source) (get sources name)
    ∙ sym (same_here (is_name name source) sources sources source name refl (λ differs. refl))))))

-- one of them made equal
pub but-rest : (first : List ℕ) (others : List (List ℕ)) (one other : Sources) → EqualBut (first ∷ others) one other
    → EqualBut others one (with_entry first (get one first) other)
but-rest first others one other but name absent =
    same_here (is_name name first) one other first name refl (λ differs. but name (or_from (is_name name first) (is_among name others) differs absent))
    ∙ sym (get-entry first (get one first) other name)

-- the same but for none of them
pub but-none : (one other : Sources) → EqualBut [] one other → other ≡ one
but-none one other but = same_map other one (λ name. sym (but name refl))

-- the same but for fewer
pub but-more : (n : ℕ) (names : List (List ℕ)) (one other : Sources) → EqualBut (drop n names) one other → EqualBut names one other
but-more zero names one other but = but
but-more (suc n) [] one other but = but
but-more (suc n) (first ∷ others) one other but =
    λ name absent. but-more n others one other but name (or_parts (is_name name first) (is_among name others) absent).1

-- a name that is not among them and one more
among-more : (name : List ℕ) (names : List (List ℕ)) (source : List ℕ) → is_among name (names ++ source ∷ []) ≡ false
    → (is_among name names ≡ false) × (is_name name source ≡ false)
among-more name [] source absent = (refl, (or_parts (is_name name source) false absent).0)
among-more name (first ∷ others) source absent =
    let rest = among-more name others source (or_parts (is_name name first) (is_among name (others ++ source ∷ [])) absent).1 in
    let here = (or_parts (is_name name first) (is_among name (others ++ source ∷ [])) absent).0 in
    (or_from (is_name name first) (is_among name others) here rest.0, rest.1)

-- one that is added to those in which they may differ
pub but-added : (source : List ℕ) (names added : List (List ℕ)) (one other : Sources) → added ≡ names ++ source ∷ [] → EqualBut names one other
    → (name : List ℕ) → is_among name added ≡ false → (is_among name (source ∷ []) ≡ false) × (get one name ≡ get other name)
but-added source names added one other is but name absent =
    let parts = among-more name names source (sym (ap (is_among name) is) ∙ absent) in
    (or_from (is_name name source) false parts.1 refl, but name parts.0)

among_not : (name source : List ℕ) (names : List (List ℕ)) (one other : Sources) (b : Bool) → is_name name source ≡ b → EqualBut names one other
    → ¬ (get one source ≡ get other source) → is_among name names ≡ false → b ≡ false
among_not name source names one other false is but differ absent = refl
among_not name source names one other true is but differ absent =
    absurd (differ (but source (sym (ap (λ n. is_among n names) (same_name_from name source is)) ∙ absent)))

-- one in which they differ already
pub but-there : (source : List ℕ) (names : List (List ℕ)) (one other : Sources) → EqualBut names one other → ¬ (get one source ≡ get other source)
    → (name : List ℕ) → is_among name names ≡ false → (is_among name (source ∷ []) ≡ false) × (get one name ≡ get other name)
but-there source names one other but differ name absent = (
  or_from (is_name name source) false (among_not name source names one other (is_name name source) refl but differ absent) refl,
  but name absent,
)

-- the same but for those once one of them was noted or wasn't
pub but-once_noted : {V E : Type 0} (source : List ℕ) (window : Window) (names : List (List ℕ)) (one other after : Sources) (done : Result V E)
    → OnOk done (after ≡ insert other source window) → OnErr done (after ≡ other)
    → ((name : List ℕ) → is_among name names ≡ false → (is_among name (source ∷ []) ≡ false) × (get one name ≡ get other name)) → EqualBut names one after
but-once_noted source window names one other after (Ok _) taken left but = λ name absent.
    let parts = but name absent in
    parts.1
    ∙ (sym (ap (λ b. cond b (Some window) (get other name)) (or_parts (is_name name source) false parts.0).0)
    ∙ (sym (get-insert other source window name) ∙ ap (λ (m : Sources). get m name) (sym taken)))
but-once_noted source window names one other after (Err _) taken left but = λ name absent.
    (but name absent).1 ∙ ap (λ (m : Sources). get m name) (sym left)

-- the window at a source's place is the one that is found
pub window-here : (source : List ℕ) (place : ℕ) (entries : List (List ℕ × Window)) (entry : List ℕ × Window) → IsHere source entries place
    → entry ≡ get_or entries place entry → find by_bytes source entries ≡ Some entry.1
window-here source place entries entry here is =
    let seam : get_or entries place entry ≡ here.entry =
    ap (λ l. get_or l place entry) here.parts
    ∙ (ap (λ n. get_or (here.before ++ here.entry ∷ here.after) n entry) here.place_is ∙ get_or-append_seam here.before here.entry here.after entry) in
    here.found ∙ ap (λ (e : List ℕ × Window). Some e.1) (sym (is ∙ seam))

pub window-there : (source : List ℕ) (place : ℕ) (sources : Sources) (list : List (List ℕ × Window)) (entry : List ℕ × Window) → IsHere source sources.entries place
    → list ≡ sources.entries → entry ≡ get_or list place entry → get sources source ≡ Some entry.1
window-there source place sources list entry here same is = window-here source place sources.entries entry here (is ∙ ap (λ l. get_or l place entry) same)

-- what it is once a number more was taken there
pub taken-here : (source : List ℕ) (place number revision : ℕ) (sources : Sources) (list : List (List ℕ × Window)) (entry : List ℕ × Window)
    → IsHere source sources.entries place → list ≡ sources.entries → entry ≡ get_or list place entry → (after : Window)
    → after ≡ taken_as number revision entry.1 → after ≡ taken_as number revision (window_of source sources)
taken-here source place number revision sources list entry here same is after taken =
    let found = window-there source place sources list entry here same is in
    taken ∙ ap (λ o. taken_as number revision (unwrap_or o nothing_taken)) (sym found)
