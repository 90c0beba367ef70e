-- The parts of a cell's body: each has one spelling, and where none begins the bytes.
use Rattle.std.proofs.Common.{◌≡◌, ℕ, ◌^◌, ◌≤◌, ◌<◌, ◌&&◌, nat_le, nat_lt, true, false, List, [], ◌∷◌, ◌++◌, length, refl, sym, ◌∙◌, ap, subst, arith, append_assoc, append-nil, length-append}
use Rattle.std.specs.Int.{w32, w64}
use Rattle.std.specs.List.{list_all, flat_map, AllByRecursion}
use Rattle.std.specs.Str.{is_utf8}
use Rattle.std.specs.Ordering.{is_lt}
use Rattle.std.specs.FinMap.Entries.{is_sorted}
use Rattle.std.proofs.lemmas.Bool.{and_parts, ltb-true}
use Rattle.std.proofs.lemmas.List.{nil_from_length}
use Rattle.std.proofs.lemmas.List.Concat.{flat_map-append}
use Rattle.std.proofs.lemmas.List.Elements.{All-from_recursion, recursion_from_All}
use Rattle.attributes.specs.Map.{by_bytes, same_entries_map}
use Rattle.delta.specs.Element.{Element}
use Rattle.delta.specs.Operation.{Operation, base_of}
use Rattle.delta.specs.Gaps.{Gaps, End, Gap, counted, apply, units_below}
use Rattle.delta.specs.Normal.{nf, IsNormal}
use Rattle.delta.proofs.CallerLemmas.{nf-same, apply-nf, base_of-nf, units_below-counted}
use Rattle.revision.specs.Name.{is_name_byte, is_name, is_source_name}
use Rattle.revision.specs.Window.{Window}
use Rattle.revision.specs.Sources.{Sources, count_of}
use Rattle.revision.specs.Spellable.{IsSpellable}
use Rattle.journal.specs.Spelling.{number, text16}
use Rattle.journal.specs.DeltaSpelling.{delta}
use Rattle.journal.proofs.CallerLemmas.{delta-append_same, one_text_spelling, one_number32_spelling, one_number64_spelling}
use Rattle.milestone.specs.CellSpelling.{Format, inserts_of, window, source, sources}
use Rattle.milestone.specs.steps.Reading.{BeginsNone, IsAbove, IsWithin, IsContent, content_bytes, IsWindowIn, IsSource, AreSources, sources_bytes}
use Rattle.milestone.proofs.Windows.{one_window}
use Rattle.milestone.proofs.Order.{above, IsLast, sorted_above, from_T}
pub use Rattle.journal.proofs.CallerLemmas.{is_utf8-is_name as name_text, is_name-short as name_short}

-- ---- names

pub name_some : (longest : ℕ) (text : List ℕ) → is_name longest text ≡ true → 1 ≤ length text
name_some longest text e =
    let both = and_parts (nat_lt 0 (length text) && nat_le (length text) longest) (list_all is_name_byte text) e in
    ltb-true _ _ (and_parts (nat_lt 0 (length text)) (nat_le (length text) longest) both.0).0

-- where no text begins the bytes no name does
pub name_none : (longest : ℕ) (bytes : List ℕ) → longest < 2 ^ 16
    → ((text rest : List ℕ) → length text < 2 ^ 16 → is_utf8 text ≡ true → bytes ≡ text16 text ++ rest → ⊥) → BeginsNone text16 (λ name. is_name longest name ≡ true) bytes
name_none longest bytes low none name rest is spelled = none name rest (omega (arith, low, name_short longest name is)) (name_text longest name is) spelled

-- nor where the text that does isn't a name
pub other_name : (longest : ℕ) (bytes text rest : List ℕ) → longest < 2 ^ 16 → length text < 2 ^ 16 → bytes ≡ text16 text ++ rest → is_name longest text ≡ false
    → BeginsNone text16 (λ name. is_name longest name ≡ true) bytes
other_name longest bytes text rest low short there isnt name other is spelled =
    let same = one_text_spelling text name rest other short (omega (arith, low, name_short longest name is)) (sym there ∙ spelled) in
    absurd (let no : true ≡ false = sym is ∙ ap (is_name longest) (sym same.0) ∙ isnt in cc)

pub one_name : (longest : ℕ) (a b x y : List ℕ) → longest < 2 ^ 16 → is_name longest a ≡ true → is_name longest b ≡ true → text16 a ++ x ≡ text16 b ++ y → (a ≡ b) × (x ≡ y)
one_name longest a b x y low is_a is_b same =
    one_text_spelling a b x y (omega (arith, low, name_short longest a is_a)) (omega (arith, low, name_short longest b is_b)) same

-- ---- numbers

pub number32_none : (n : ℕ) (bytes : List ℕ) → length bytes < 4 → (rest : List ℕ) → bytes ≡ number w32 n ++ rest → ⊥
unfolding number
number32_none n bytes short rest there = absurd (omega (arith, short, ap (length {A = ℕ}) there))

pub number64_none : (high : ℕ) (bytes : List ℕ) → length bytes < 8 → BeginsNone (number w64) (IsWithin high) bytes
unfolding number
number64_none high bytes short n rest is there = absurd (omega (arith, short, ap (length {A = ℕ}) there))

pub other_number64 : (high m : ℕ) (bytes rest : List ℕ) → high < 2 ^ 64 → m < 2 ^ 64 → bytes ≡ number w64 m ++ rest → (IsWithin high m → ⊥) → BeginsNone (number w64) (IsWithin high) bytes
other_number64 high m bytes rest low fits there isnt n other is spelled =
    let same = one_number64_spelling m n rest other fits (omega (arith, low, is.1)) (sym there ∙ spelled) in
    isnt (subst (IsWithin high) (sym same.0) is)

-- a number above another one
pub above_none : (low high : ℕ) (bytes : List ℕ) → BeginsNone (number w64) (IsWithin high) bytes → BeginsNone (number w64) (IsAbove low high) bytes
above_none low high bytes none n rest is spelled = none n rest (omega (arith, is.0), is.1) spelled

pub other_above : (low high m : ℕ) (bytes rest : List ℕ) → high < 2 ^ 64 → m < 2 ^ 64 → bytes ≡ number w64 m ++ rest → m ≤ low → BeginsNone (number w64) (IsAbove low high) bytes
other_above low high m bytes rest few fits there isnt n other is spelled =
    let same = one_number64_spelling m n rest other fits (omega (arith, few, is.1)) (sym there ∙ spelled) in
    absurd (omega (arith, isnt, is.0, same.0))

-- ---- content

-- operations that stand on no unit insert alone
only_end : (g : Gaps) → units_below g ≡ 0 → g ≡ End (apply [] g)
only_end (End xs) none = ap End (sym (append-nil xs))
only_end (Gap xs f g) none = absurd (omega (arith, none))

-- so they are those that make the document of the empty one
pub inserts_back : (operations : List Operation) → IsNormal operations → base_of operations ≡ 0 → operations ≡ inserts_of (apply [] (counted operations))
inserts_back operations normal none =
    sym (nf-same operations normal) ∙ ap nf (only_end (counted operations) (units_below-counted operations ∙ none))

inserts_none : (units : List Element) → base_of (inserts_of units) ≡ 0
inserts_none units = omega (arith, base_of-nf (End units))

pub units_back : (units : List Element) → apply [] (counted (inserts_of units)) ≡ units
units_back units = apply-nf [] (End units) ∙ append-nil units

pub one_content : (a b : List Element) (x y : List ℕ) → IsContent a → IsContent b → content_bytes a ++ x ≡ content_bytes b ++ y → (a ≡ b) × (x ≡ y)
unfolding content_bytes
one_content a b x y is_a is_b same =
    let both = delta-append_same (inserts_of a) (inserts_of b) x y is_a is_b same in
    (sym (units_back a) ∙ ap (λ (ops : List Operation). apply [] (counted ops)) both.0 ∙ units_back b, both.1)

pub content_none : (bytes : List ℕ) → ((operations : List Operation) (rest : List ℕ) → IsSpellable operations → bytes ≡ delta operations ++ rest → ⊥) → BeginsNone content_bytes IsContent bytes
unfolding content_bytes
content_none bytes none units rest is spelled = none (inserts_of units) rest is spelled

pub other_content : (operations : List Operation) (bytes rest : List ℕ) → IsSpellable operations → bytes ≡ delta operations ++ rest → 0 < base_of operations → BeginsNone content_bytes IsContent bytes
unfolding content_bytes
other_content operations bytes rest is there some units other content spelled =
    let same = delta-append_same operations (inserts_of units) rest other is content (sym there ∙ spelled) in
    absurd (omega (arith, some, ap base_of same.0, inserts_none units))

pub read_content : (operations : List Operation) (units : List Element) (bytes rest : List ℕ) → IsSpellable operations → bytes ≡ delta operations ++ rest → base_of operations ≡ 0
    → units ≡ apply [] (counted operations) → IsContent units × (bytes ≡ content_bytes units ++ rest)
unfolding content_bytes
read_content operations units bytes rest is there none made =
    let same : operations ≡ inserts_of units = inserts_back operations is.normal none ∙ ap inserts_of (sym made) in
    (subst IsSpellable same is, there ∙ ap (λ (ops : List Operation). delta ops ++ rest) same)

-- ---- sources

-- the parts of a source's bytes
pub source_parts : (format : Format) (s : List ℕ × Window) (x : List ℕ) → source format s ++ x ≡ text16 s.0 ++ (window format s.1 ++ x)
unfolding source
source_parts format s x = append_assoc (text16 s.0) (window format s.1) x

-- one that was read
pub source_read : (format : Format) (revision : ℕ) (name : List ℕ) (w : Window) (bytes named rest : List ℕ) → is_source_name name ≡ true → bytes ≡ text16 name ++ named
    → IsWindowIn format revision w × (named ≡ window format w ++ rest) → IsSource format revision (name, w) × (bytes ≡ source format (name, w) ++ rest)
source_read format revision name w bytes named rest is there read = (
  record { named = is; window = read.0 },
  there ∙ ap (λ (l : List ℕ). text16 name ++ l) read.1 ∙ sym (source_parts format (name, w) rest),
)

module _ (format : Format) (revision : ℕ) (low : revision < 2 ^ 64) where
  -- the name and the window of a source that begins bytes whose name is known
  pub behind_name : (bytes name rest : List ℕ) (s : List ℕ × Window) (x : List ℕ) → is_source_name name ≡ true → bytes ≡ text16 name ++ rest → IsSource format revision s
      → bytes ≡ source format s ++ x → (name ≡ s.0) × (rest ≡ window format s.1 ++ x)
  behind_name bytes name rest s x named there is spelled =
      one_name 32 name s.0 rest _ (omega arith) named is.named (sym there ∙ spelled ∙ source_parts format s x)

  one_source : (a b : List ℕ × Window) (x y : List ℕ) → IsSource format revision a → IsSource format revision b → source format a ++ x ≡ source format b ++ y → (a ≡ b) × (x ≡ y)
  one_source a b x y is_a is_b same =
      let names = behind_name (source format a ++ x) a.0 _ b y is_a.named (source_parts format a x) is_b same in
      let windows = one_window format revision low a.1 b.1 x y is_a.window is_b.window names.1 in
      (λ i. (names.0 i, windows.0 i), windows.1)

  -- a list of sources whose bytes begin those of another one begins the other one
  prefix : (ps qs : List (List ℕ × Window)) (x y : List ℕ) → AllByRecursion (IsSource format revision) ps → AllByRecursion (IsSource format revision) qs
      → flat_map (source format) ps ++ x ≡ flat_map (source format) qs ++ y → length ps ≤ length qs → (more : List (List ℕ × Window)) × (qs ≡ ps ++ more) × (x ≡ flat_map (source format) more ++ y)
  prefix [] qs x y all_a all_b same few = (qs, refl, same)
  prefix (a ∷ ps) [] x y all_a all_b same few = absurd (omega arith)
  prefix (a ∷ ps) (b ∷ qs) x y all_a all_b same few =
      let heads = one_source a b (flat_map (source format) ps ++ x) (flat_map (source format) qs ++ y) all_a.0 all_b.0
      (sym (append_assoc (source format a) (flat_map (source format) ps) x) ∙ same ∙ append_assoc (source format b) (flat_map (source format) qs) y) in
      let others = prefix ps qs x y all_a.1 all_b.1 heads.1 (omega arith) in
      (others.0, λ i. sym heads.0 i ∷ others.1 i, others.2)

  pub one_sources : (a b : Sources) (x y : List ℕ) → AreSources format revision a → AreSources format revision b → sources_bytes format a ++ x ≡ sources_bytes format b ++ y → (a ≡ b) × (x ≡ y)
  unfolding sources
  one_sources a b x y is_a is_b same =
      let counts = one_number32_spelling (count_of a) (count_of b) _ _ is_a.count is_b.count
      (sym (append_assoc (number w32 (count_of a)) (flat_map (source format) a.entries) x) ∙ same ∙ append_assoc (number w32 (count_of b)) (flat_map (source format) b.entries) y) in
      let others = prefix a.entries b.entries x y (recursion_from_All (IsSource format revision) a.entries is_a.each) (recursion_from_All (IsSource format revision) b.entries is_b.each) counts.1 (omega (arith, counts.0)) in
      let nothing : others.0 ≡ [] = nil_from_length others.0 (omega (arith, counts.0, ap (length {A = List ℕ × Window}) others.1, length-append a.entries others.0)) in
      let entries : a.entries ≡ b.entries = sym (append-nil a.entries) ∙ ap (λ (l : List (List ℕ × Window)). a.entries ++ l) (sym nothing) ∙ sym others.1 in
      (same_entries_map a b entries, others.2 ∙ ap (λ (l : List (List ℕ × Window)). flat_map (source format) l ++ y) nothing)

  pub sources_short : (bytes : List ℕ) → length bytes < 4 → BeginsNone (sources_bytes format) (AreSources format revision) bytes
  unfolding sources
  sources_short bytes short others rest are spelled =
      number32_none (count_of others) bytes short (flat_map (source format) others.entries ++ rest) (spelled ∙ append_assoc (number w32 (count_of others)) (flat_map (source format) others.entries) rest)

  -- so many sources are read, and no further one that is above them begins the bytes
  pub none_more : (entries : List (List ℕ × Window)) (last : List ℕ) (count : ℕ) (bytes rest : List ℕ) → bytes ≡ number w32 count ++ (flat_map (source format) entries ++ rest) → count < 2 ^ 32
      → length entries < count → AllByRecursion (IsSource format revision) entries → IsLast entries last
      → ((x : List ℕ × Window) (behind : List ℕ) → IsSource format revision x → is_lt (by_bytes last x.0) ≡ true → rest ≡ source format x ++ behind → ⊥)
      → BeginsNone (sources_bytes format) (AreSources format revision) bytes
  unfolding sources
  none_more entries last count bytes rest there low few all is none others behind are spelled =
      let counts = one_number32_spelling count (count_of others) _ _ low are.count
      (sym there ∙ spelled ∙ append_assoc (number w32 (count_of others)) (flat_map (source format) others.entries) behind) in
      let each = recursion_from_All (IsSource format revision) others.entries are.each in
      let more = prefix entries others.entries rest behind all each counts.1 (omega (arith, few, counts.0)) in
      further more.0 more.1 more.2 (subst (AllByRecursion (IsSource format revision)) more.1 each) (omega (arith, few, counts.0, ap (length {A = List ℕ × Window}) more.1, length-append entries more.0))
    where
      behind_all : (front more : List (List ℕ × Window)) → AllByRecursion (IsSource format revision) (front ++ more) → AllByRecursion (IsSource format revision) more
      behind_all [] more each = each
      behind_all (f ∷ front) more each = behind_all front more each.1

      further : (more : List (List ℕ × Window)) → others.entries ≡ entries ++ more → rest ≡ flat_map (source format) more ++ behind → AllByRecursion (IsSource format revision) (entries ++ more) → 0 < length more → ⊥
      further [] same then each some = absurd (omega arith)
      further (x ∷ more) same then each some =
          let here = behind_all entries (x ∷ more) each in
          let order : above entries x.0 ≡ true = sorted_above entries x more (ap (is_sorted by_bytes) (sym same) ∙ from_T _ others.ascending) in
          none x (flat_map (source format) more ++ behind) here.0 (is.back x.0 (name_some 32 x.0 here.0.named) order) (then ∙ append_assoc (source format x) (flat_map (source format) more) behind)

pub each_more : (format : Format) (revision : ℕ) (entries : List (List ℕ × Window)) (x : List ℕ × Window) → AllByRecursion (IsSource format revision) entries → IsSource format revision x
    → AllByRecursion (IsSource format revision) (entries ++ x ∷ [])
each_more format revision [] x all is = (is, tt)
each_more format revision (e ∷ entries) x all is = (all.0, each_more format revision entries x all.1 is)

-- a source more is read
pub split_more : (format : Format) (count : ℕ) (entries : List (List ℕ × Window)) (x : List ℕ × Window) (bytes rest after : List ℕ) → bytes ≡ number w32 count ++ (flat_map (source format) entries ++ rest)
    → rest ≡ source format x ++ after → bytes ≡ number w32 count ++ (flat_map (source format) (entries ++ x ∷ []) ++ after)
split_more format count entries x bytes rest after there next =
    let more : flat_map (source format) (entries ++ x ∷ []) ≡ flat_map (source format) entries ++ source format x =
    flat_map-append (source format) entries (x ∷ []) ∙ ap (λ (l : List ℕ). flat_map (source format) entries ++ l) (append-nil (source format x)) in
    there
    ∙ ap (λ (l : List ℕ). number w32 count ++ (flat_map (source format) entries ++ l)) next
    ∙ ap (λ (l : List ℕ). number w32 count ++ l) (sym (append_assoc (flat_map (source format) entries) (source format x) after) ∙ ap (λ (l : List ℕ). l ++ after) (sym more))

-- all are
pub all_read : (format : Format) (revision : ℕ) (all : Sources) (count : ℕ) (bytes rest : List ℕ) → bytes ≡ number w32 count ++ (flat_map (source format) all.entries ++ rest) → count < 2 ^ 32
    → count_of all ≡ count → AllByRecursion (IsSource format revision) all.entries → AreSources format revision all × (bytes ≡ sources_bytes format all ++ rest)
unfolding sources
all_read format revision all count bytes rest there low same each = (
  record { count = omega (arith, low, same); each = All-from_recursion (IsSource format revision) all.entries each },
  there ∙ ap (λ k. number w32 k ++ (flat_map (source format) all.entries ++ rest)) (sym same) ∙ sym (append_assoc (number w32 (count_of all)) (flat_map (source format) all.entries) rest),
)
