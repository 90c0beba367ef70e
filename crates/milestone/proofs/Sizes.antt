-- A cell that keeps the limits has its place in as many bytes as a document may weigh, and 128 more.
use Rattle.std.proofs.Common.{◌≡◌, ℕ, ◌+◌, ◌-◌, ◌*◌, ◌≤◌, ◌<◌, true, List, [], ◌∷◌, ◌++◌, length, sum_by, refl, sym, ap, subst, ◌∙◌, ⊎_elim, arith}
use Rattle.std.specs.Int.{w32, w64}
use Rattle.std.specs.List.{flat_map, AllByRecursion}
use Rattle.std.specs.Char.{encode_utf8, len_utf8}
use Rattle.std.specs.Char.Escape.{encode_utf16}
use Rattle.std.specs.Str.{IsUtf8, chars, encode_utf8_all}
use Rattle.std.proofs.lemmas.Bool.{cond_both, and_parts, cases_lt}
use Rattle.std.proofs.lemmas.List.{length-append}
use Rattle.std.proofs.lemmas.List.Sums.{sum_by-cons}
use Rattle.std.proofs.lemmas.List.Elements.{recursion_from_All}
use Rattle.std.proofs.lemmas.Str.{encodes-chars, length-encode, len_utf8_bounds, IsUtf8-from_is_utf8}
use Rattle.std.proofs.str.Utf16.{one_unit, two_units}
use Rattle.utf16.specs.Units.{units_of, units_of_chars, utf8_of}
use Rattle.utf16.proofs.CallerLemmas.{utf8_of-units_of}
use Rattle.attributes.specs.Attributes.{Attributes, same_attributes}
use Rattle.attributes.specs.Scalar.{Scalar, text_scalar, whole_scalar, flag_scalar}
use Rattle.delta.specs.Element.{Element, Item, code_unit, embed}
use Rattle.delta.specs.Operation.{Operation, insert_text, insert_embed, retain, delete}
use Rattle.delta.specs.Normal.{spell_unit, spell_item, spell_inserts}
use Rattle.document.specs.Weight.{named_weight, entries_weight, unit_weight, weight_of}
use Rattle.revision.specs.Name.{is_source_name}
use Rattle.revision.specs.Sources.{are_named, total_of}
use Rattle.revision.specs.Window.{Window}
use Rattle.revision.specs.State.{Limits, window_weight}
use Rattle.revision.specs.Spellable.{IsOperation}
use Rattle.revision.specs.Width.{value_width, pair_width, operation_width, delta_width}
use Rattle.journal.specs.Spelling.{number, text16}
use Rattle.journal.specs.DeltaSpelling as deltas
use Rattle.journal.proofs.CallerLemmas.{length-delta, length-text16 as text, length-number32, length-number64, is_name-short}
use Rattle.history.specs.Cell.{Cell, CellKeeps}
use Rattle.milestone.specs.Milestone.{IsMilestone}
use Rattle.milestone.specs.CellSpelling.{Two, mark, inserts_of, window, source, sources, cell_body_in, cell_body}
use Rattle.milestone.specs.Law.{FitsItsCell}

-- a character below U+10000 has at most three bytes
small_width : (c : ℕ) → c < 0x1_0000 → len_utf8 c ≤ 3
small_width c small = grind (arith, small)

-- a character has at most three bytes for each of its code units
narrow_char : (c : ℕ) → length (encode_utf8 c) ≤ 3 * length (encode_utf16 c)
narrow_char c =
    ⊎_elim
    (λ small. omega (arith, ap (length {A = ℕ}) (one_unit c small), length-encode c, small_width c small))
    (λ large. omega (arith, ap (length {A = ℕ}) (two_units c large), length-encode c, (len_utf8_bounds c).1))
    (cases_lt c 0x1_0000)

narrow_chars : (cs : List ℕ) → length (encode_utf8_all cs) ≤ 3 * length (units_of_chars cs)
narrow_chars [] = omega arith
narrow_chars (c ∷ cs) = omega (arith, length-append (encode_utf16 c) (units_of_chars cs), length-append (encode_utf8 c) (encode_utf8_all cs), narrow_char c, narrow_chars cs)

pub narrow_text : (text : List ℕ) → IsUtf8 text → length (utf8_of (units_of text)) ≤ 3 * length (units_of text)
narrow_text text valid =
    subst (λ (t : List ℕ). length t ≤ 3 * length (units_of text)) (encodes-chars text valid ∙ sym (utf8_of-units_of text valid)) (narrow_chars (chars text))

-- the text of an operation has at most three bytes for each of its code units
abbrev IsNarrow : Operation → Type 0
IsNarrow (insert_text units a) = length (utf8_of units) ≤ 3 * length units
IsNarrow (insert_embed name v a) = Unit {0}
IsNarrow (retain n c) = Unit {0}
IsNarrow (delete n) = Unit {0}

-- what an operation takes where each unit is given three bytes
abbrev pub light : Operation → ℕ
light (insert_text units a) = 9 + 3 * length units + sum_by (pair_width value_width) a.entries
light (insert_embed name v a) = operation_width (insert_embed name v a)
light (retain n c) = operation_width (retain n c)
light (delete n) = operation_width (delete n)

light_pair : (p : List ℕ × Scalar) → pair_width value_width p ≤ named_weight p.0 p.1
light_pair (name, flag_scalar b) = omega arith
light_pair (name, whole_scalar n) = omega arith
light_pair (name, text_scalar text) = omega arith

light_value : (v : Scalar) (name : List ℕ) → 3 + length name + value_width v + 4 ≤ 12 + named_weight name v
light_value (flag_scalar b) name = omega arith
light_value (whole_scalar n) name = omega arith
light_value (text_scalar text) name = omega arith

light_entries : (entries : List (List ℕ × Scalar)) → sum_by (pair_width value_width) entries ≤ entries_weight entries
light_entries [] = omega arith
light_entries (p ∷ entries) = omega (arith, sum_by-cons (pair_width value_width) p entries, light_pair p, light_entries entries)

light_unit : (u : ℕ) (a : Attributes) (ops : List Operation) → sum_by light (spell_unit u a ops) ≤ 12 + entries_weight a.entries + sum_by light ops
light_unit u a [] = omega (arith, sum_by-cons light (insert_text (u ∷ []) a) [], light_entries a.entries)
light_unit u a (insert_text us b ∷ ops) =
    cond_both (same_attributes a b) (insert_text (u ∷ us) b ∷ ops) (insert_text (u ∷ []) a ∷ insert_text us b ∷ ops)
    (λ (l : List Operation). sum_by light l ≤ 12 + entries_weight a.entries + sum_by light (insert_text us b ∷ ops))
    (λ e. omega (arith, sum_by-cons light (insert_text (u ∷ us) b) ops, sum_by-cons light (insert_text us b) ops))
    (λ e. omega (arith, sum_by-cons light (insert_text (u ∷ []) a) (insert_text us b ∷ ops), light_entries a.entries))
light_unit u a (insert_embed name v b ∷ ops) = omega (arith, sum_by-cons light (insert_text (u ∷ []) a) (insert_embed name v b ∷ ops), light_entries a.entries)
light_unit u a (retain n c ∷ ops) = omega (arith, sum_by-cons light (insert_text (u ∷ []) a) (retain n c ∷ ops), light_entries a.entries)
light_unit u a (delete n ∷ ops) = omega (arith, sum_by-cons light (insert_text (u ∷ []) a) (delete n ∷ ops), light_entries a.entries)

light_item : (x : Element) (ops : List Operation) → sum_by light (spell_item x.item x.attributes ops) ≤ unit_weight x + sum_by light ops
light_item x ops = of x.item x.attributes
  where
    of : (item : Item) (a : Attributes) → sum_by light (spell_item item a ops) ≤ unit_weight (record { item = item; attributes = a }) + sum_by light ops
    of (code_unit u) a = omega (arith, light_unit u a ops)
    of (embed name v) a = omega (arith, sum_by-cons light (insert_embed name v a) ops, light_value v name, light_entries a.entries)

pub light_inserts : (units : List Element) → sum_by light (spell_inserts units []) ≤ weight_of units
light_inserts [] = omega arith
light_inserts (x ∷ units) = omega (arith, light_item x (spell_inserts units []), light_inserts units)

narrow_light : (op : Operation) → IsNarrow op → operation_width op ≤ light op
narrow_light (insert_text units a) narrow = omega (arith, narrow)
narrow_light (insert_embed name v a) narrow = omega arith
narrow_light (retain n c) narrow = omega arith
narrow_light (delete n) narrow = omega arith

narrow_all : (ops : List Operation) → AllByRecursion IsNarrow ops → sum_by operation_width ops ≤ sum_by light ops
narrow_all [] narrow = omega arith
narrow_all (op ∷ ops) narrow =
    omega (arith, sum_by-cons operation_width op ops, sum_by-cons light op ops, narrow_light op narrow.0, narrow_all ops narrow.1)

pub content_width : (units : List Element) → AllByRecursion IsNarrow (inserts_of units) → delta_width (inserts_of units) ≤ 4 + weight_of units
content_width units narrow = omega (arith, narrow_all (inserts_of units) narrow, light_inserts units)

-- what can be spelled is whole
narrow_operation : (op : Operation) → IsOperation op → IsNarrow op
narrow_operation (insert_text units a) is =
    let narrow = narrow_text (utf8_of units) (IsUtf8-from_is_utf8 (utf8_of units) is.0.valid) in
    subst (λ (us : List ℕ). length (utf8_of us) ≤ 3 * length us) is.0.back narrow
narrow_operation (insert_embed name v a) is = tt
narrow_operation (retain n c) is = tt
narrow_operation (delete n) is = tt

narrow_each : (ops : List Operation) → AllByRecursion IsOperation ops → AllByRecursion IsNarrow ops
narrow_each [] each = tt
narrow_each (op ∷ ops) each = (narrow_operation op each.0, narrow_each ops each.1)

-- so many numbers of eight bytes
numbers_long : (numbers : List ℕ) → length (flat_map (number w64) numbers) ≡ 8 * length numbers
numbers_long [] = refl
numbers_long (n ∷ numbers) = omega (arith, length-append (number w64 n) (flat_map (number w64) numbers), length-number64 n, numbers_long numbers)

window_long : (w : Window) → length (window Two w) ≡ 9 + 8 * length w.revisions
unfolding window
window_long w =
    omega (arith, length-append (number w64 w.number) (length w.revisions ∷ flat_map (number w64) w.revisions), length-number64 w.number, numbers_long w.revisions)

-- a source takes at most 43 bytes, and 8 for each number of its window
source_short : (s : List ℕ × Window) → is_source_name s.0 ≡ true → length (source Two s) ≤ 43 + 8 * length s.1.revisions
unfolding source
source_short s is = omega (arith, length-append (text16 s.0) (window Two s.1), text s.0, window_long s.1, is_name-short 32 s.0 is)

-- which is less than it weighs, where a further number weighs 8
window_weighs : (retry count : ℕ) → retry ≡ 8 → 43 + 8 * count ≤ 64 - retry + retry * count
window_weighs retry count eight = subst (λ r. 43 + 8 * count ≤ 64 - r + r * count) (sym eight) (omega arith)

sources_light : (limits : Limits) (all : List (List ℕ × Window)) → limits.retry ≡ 8 → are_named all ≡ true → length (flat_map (source Two) all) ≤ total_of (window_weight limits) all
sources_light limits [] eight named = omega arith
sources_light limits (s ∷ all) eight named =
    let both = and_parts (is_source_name s.0) (are_named all) named in
    more (length (source Two s)) (43 + 8 * length s.1.revisions) (window_weight limits s.1) (length (flat_map (source Two) all)) (total_of (window_weight limits) all)
    (length (flat_map (source Two) (s ∷ all))) (source_short s both.0) (window_weighs limits.retry (length s.1.revisions) eight) (sources_light limits all eight both.1)
    (length-append (source Two s) (flat_map (source Two) all))
  where
    more : (one room weight others total long : ℕ) → one ≤ room → room ≤ weight → others ≤ total → long ≡ one + others → long ≤ weight + total
    more one room weight others total long short light rest is = omega (arith, short, light, rest, is)

sources_short : (limits : Limits) (all : List (List ℕ × Window)) → limits.retry ≡ 8 → are_named all ≡ true → length (sources Two all) ≤ 4 + total_of (window_weight limits) all
unfolding sources
sources_short limits all eight named =
    omega (arith, length-append (number w32 (length all)) (flat_map (source Two) all), length-number32 (length all), sources_light limits all eight named)

-- the body, behind its gate and its length
body_fits : (n : ℕ) (limits : Limits) (cell : Cell) → limits.retry ≡ 8 → IsMilestone cell → CellKeeps limits cell → AllByRecursion IsNarrow (inserts_of cell.content.units)
    → 5 + length (cell_body n cell) ≤ limits.weight + 128
unfolding cell_body_in
body_fits n limits cell eight is keeps narrow =
    let content = deltas.delta (inserts_of cell.content.units) in
    let all = sources Two cell.sources.entries in
    omega (
      arith,
      length-append (number w32 n ++ text16 cell.name ++ number w64 cell.revision ++ mark Two cell.content.live ++ content) all,
      length-append (number w32 n ++ text16 cell.name ++ number w64 cell.revision ++ mark Two cell.content.live) content,
      length-append (number w32 n ++ text16 cell.name ++ number w64 cell.revision) (mark Two cell.content.live),
      length-append (number w32 n ++ text16 cell.name) (number w64 cell.revision),
      length-append (number w32 n) (text16 cell.name),
      length-number32 n,
      text cell.name,
      length-number64 cell.revision,
      length-delta (inserts_of cell.content.units),
      content_width cell.content.units narrow,
      sources_short limits cell.sources.entries eight is.named,
      is_name-short 64 cell.name is.name,
      keeps.weight,
    )

pub cell_fits : FitsItsCell
cell_fits n limits cell eight is keeps =
    body_fits n limits cell eight is.milestone keeps (narrow_each (inserts_of cell.content.units) (recursion_from_All IsOperation (inserts_of cell.content.units) is.content.each))
