-- The body of a cell, part by part: what begins it, and which one it is where its parts are known.
use Rattle.std.proofs.Common.{◌≡◌, ℕ, ◌^◌, ◌<◌, Bool, true, false, List, [], ◌∷◌, ◌++◌, length, true≢false, refl, sym, ◌∙◌, ap, subst, arith, append_assoc, append-nil}
use Rattle.std.specs.Int.{w32, w64}
use Rattle.std.specs.List.{AllByRecursion}
use Rattle.std.proofs.lemmas.Bool.{and_parts, and_from}
use Rattle.std.proofs.lemmas.List.Elements.{All-from_recursion, recursion_from_All}
use Rattle.delta.specs.Element.{Element}
use Rattle.revision.specs.Name.{is_document_name, is_source_name}
use Rattle.revision.specs.Window.{Window}
use Rattle.revision.specs.Past.{Content, is_content}
use Rattle.revision.specs.Sources.{Sources, are_named}
use Rattle.revision.specs.State.{last_of_all, is_window, are_sources}
use Rattle.journal.specs.Spelling.{number, text16}
use Rattle.journal.proofs.CallerLemmas.{one_number32_spelling, one_number64_spelling}
use Rattle.history.specs.Cell.{Cell}
use Rattle.milestone.specs.CellSpelling.{Format, One, Two, mark, spells_mark, spells, have_one, spells_all, cell_body_in, IsCellIn}
use Rattle.milestone.specs.steps.Reading.{BeginsNone, IsWithin, IsContent, content_bytes, IsSource, AreSources, sources_bytes}
use Rattle.milestone.proofs.Fields.{one_name, one_content, one_sources}
use Rattle.milestone.proofs.Marks.{one_mark}

-- ---- windows that a format spells, one by one and all

abbrev spells_each : Format → List (List ℕ × Window) → Type 0
spells_each format all = AllByRecursion (λ (s : List ℕ × Window). spells format s.1 ≡ true) all

spelled_each : (format : Format) (all : List (List ℕ × Window)) → spells_all format all ≡ true → spells_each format all
spelled_each One [] h = tt
spelled_each One (first ∷ others) h =
    let parts = and_parts (spells One first.1) (have_one others) h in
    (parts.0, spelled_each One others parts.1)
spelled_each Two [] h = tt
spelled_each Two (first ∷ others) h = (refl, spelled_each Two others refl)

spelled_all : (format : Format) (all : List (List ℕ × Window)) → spells_each format all → spells_all format all ≡ true
spelled_all One [] each = refl
spelled_all One (first ∷ others) each = and_from _ _ each.0 (spelled_all One others each.1)
spelled_all Two all each = refl

-- ---- sources, one by one and all

module _ (format : Format) where
  sources_each : (revision : ℕ) (all : List (List ℕ × Window)) → are_named all ≡ true → are_sources revision all ≡ true → spells_each format all → AllByRecursion (IsSource format revision) all
  sources_each revision [] named are spelled = tt
  sources_each revision (first ∷ others) named are spelled =
      let names = and_parts (is_source_name first.0) (are_named others) named in
      let windows = and_parts (is_window revision first.1) (are_sources revision others) are in
      (record { named = names.0; window = record { is = windows.0; spelled = spelled.0 } }, sources_each revision others names.1 windows.1 spelled.1)

  each_named : (revision : ℕ) (all : List (List ℕ × Window)) → AllByRecursion (IsSource format revision) all → are_named all ≡ true
  each_named revision [] each = refl
  each_named revision (first ∷ others) each = and_from _ _ each.0.named (each_named revision others each.1)

  each_last : (revision : ℕ) (all : List (List ℕ × Window)) → AllByRecursion (IsSource format revision) all → are_sources revision all ≡ true
  each_last revision [] each = refl
  each_last revision (first ∷ others) each = and_from _ _ each.0.window.is (each_last revision others each.1)

  each_spelled : (revision : ℕ) (all : List (List ℕ × Window)) → AllByRecursion (IsSource format revision) all → spells_each format all
  each_spelled revision [] each = tt
  each_spelled revision (first ∷ others) each = (each.0.window.spelled, each_spelled revision others each.1)

pub all_last : (format : Format) (revision : ℕ) (all : Sources) → AreSources format revision all → are_sources revision all.entries ≡ true
all_last format revision all are = each_last format revision all.entries (recursion_from_All (IsSource format revision) all.entries are.each)

pub all_named : (format : Format) (revision : ℕ) (all : Sources) → AreSources format revision all → are_named all.entries ≡ true
all_named format revision all are = each_named format revision all.entries (recursion_from_All (IsSource format revision) all.entries are.each)

all_spelled : (format : Format) (revision : ℕ) (all : Sources) → AreSources format revision all → spells_all format all.entries ≡ true
all_spelled format revision all are = spelled_all format all.entries (each_spelled format revision all.entries (recursion_from_All (IsSource format revision) all.entries are.each))

sources_of : (format : Format) (n : ℕ) (cell : Cell) → IsCellIn format n cell → AreSources format cell.revision cell.sources
sources_of format n cell is = record {
  count = is.count;
  each = All-from_recursion (IsSource format cell.revision) cell.sources.entries
      (sources_each format cell.revision cell.sources.entries is.milestone.named is.milestone.sources (spelled_each format cell.sources.entries is.windows));
}

-- ---- the parts

-- the bytes behind each part, where others are behind the body
abbrev behind_mark : Format → Cell → List ℕ → List ℕ
behind_mark format cell more = content_bytes cell.content.units ++ (sources_bytes format cell.sources ++ more)

abbrev behind_revision : Format → Cell → List ℕ → List ℕ
behind_revision format cell more = mark format cell.content.live ++ behind_mark format cell more

abbrev behind_name : Format → Cell → List ℕ → List ℕ
behind_name format cell more = number w64 cell.revision ++ behind_revision format cell more

abbrev behind_document : Format → Cell → List ℕ → List ℕ
behind_document format cell more = text16 cell.name ++ behind_name format cell more

cell_parts : (format : Format) (n : ℕ) (cell : Cell) (more : List ℕ) → cell_body_in format n cell ++ more ≡ number w32 n ++ behind_document format cell more
unfolding cell_body_in content_bytes
cell_parts format n cell more = simp append_assoc

-- the bytes are the body of no cell of this document
abbrev pub IsNone : Format → ℕ → List ℕ → Type 0
IsNone format n bytes = (cell : Cell) → IsCellIn format n cell → bytes ≡ cell_body_in format n cell → ⊥

module _ (format : Format) (n : ℕ) (low : n < 2 ^ 32) (bytes : List ℕ) where
  alone : (cell : Cell) → bytes ≡ cell_body_in format n cell → bytes ≡ cell_body_in format n cell ++ []
  alone cell spelled = spelled ∙ sym (append-nil (cell_body_in format n cell))

  module _ (rest : List ℕ) (there : bytes ≡ number w32 n ++ rest) where
    is_behind_document : (cell : Cell) (more : List ℕ) → bytes ≡ cell_body_in format n cell ++ more → rest ≡ behind_document format cell more
    is_behind_document cell more spelled = (one_number32_spelling n n rest (behind_document format cell more) low low (sym there ∙ spelled ∙ cell_parts format n cell more)).1

    pub at_name : BeginsNone text16 (λ name. is_document_name name ≡ true) rest → IsNone format n bytes
    at_name none cell is spelled = none cell.name (behind_name format cell []) is.milestone.name (is_behind_document cell [] (alone cell spelled))

    module _ (name named_rest : List ℕ) (named : is_document_name name ≡ true) (name_there : rest ≡ text16 name ++ named_rest) where
      is_behind_name : (cell : Cell) (more : List ℕ) → IsCellIn format n cell → bytes ≡ cell_body_in format n cell ++ more → (name ≡ cell.name) × (named_rest ≡ behind_name format cell more)
      is_behind_name cell more is spelled =
          one_name 64 name cell.name named_rest (behind_name format cell more) (omega arith) named is.milestone.name (sym name_there ∙ is_behind_document cell more spelled)

      pub at_revision : BeginsNone (number w64) (IsWithin last_of_all) named_rest → IsNone format n bytes
      at_revision none cell is spelled = none cell.revision (behind_revision format cell []) (is.milestone.first, is.milestone.last) (is_behind_name cell [] is (alone cell spelled)).1

      module _ (revision : ℕ) (revised_rest : List ℕ) (revised : IsWithin last_of_all revision) (revision_there : named_rest ≡ number w64 revision ++ revised_rest) where
        is_behind_revision : (cell : Cell) (more : List ℕ) → IsCellIn format n cell → bytes ≡ cell_body_in format n cell ++ more → (revision ≡ cell.revision) × (revised_rest ≡ behind_revision format cell more)
        is_behind_revision cell more is spelled =
            one_number64_spelling revision cell.revision revised_rest (behind_revision format cell more) (omega (arith, revised.1)) (omega (arith, is.milestone.last))
            (sym revision_there ∙ (is_behind_name cell more is spelled).1)

        pub at_mark : BeginsNone (mark format) (λ live. spells_mark format live ≡ true) revised_rest → IsNone format n bytes
        at_mark none cell is spelled = none cell.content.live (behind_mark format cell []) is.mark (is_behind_revision cell [] is (alone cell spelled)).1

        module _ (live : Bool) (marked_rest : List ℕ) (marked : spells_mark format live ≡ true) (mark_there : revised_rest ≡ mark format live ++ marked_rest) where
          is_behind_mark : (cell : Cell) (more : List ℕ) → IsCellIn format n cell → bytes ≡ cell_body_in format n cell ++ more → (live ≡ cell.content.live) × (marked_rest ≡ behind_mark format cell more)
          is_behind_mark cell more is spelled =
              one_mark format live cell.content.live marked_rest (behind_mark format cell more) marked is.mark (sym mark_there ∙ (is_behind_revision cell more is spelled).1)

          pub at_content : BeginsNone content_bytes IsContent marked_rest → IsNone format n bytes
          at_content none cell is spelled = none cell.content.units (sources_bytes format cell.sources ++ []) is.content (is_behind_mark cell [] is (alone cell spelled)).1

          module _ (units : List Element) (filled_rest : List ℕ) (filled : IsContent units) (content_there : marked_rest ≡ content_bytes units ++ filled_rest) where
            is_behind_content : (cell : Cell) (more : List ℕ) → IsCellIn format n cell → bytes ≡ cell_body_in format n cell ++ more → (units ≡ cell.content.units) × (filled_rest ≡ sources_bytes format cell.sources ++ more)
            is_behind_content cell more is spelled =
                one_content units cell.content.units filled_rest (sources_bytes format cell.sources ++ more) filled is.content (sym content_there ∙ (is_behind_mark cell more is spelled).1)

            -- something stands in it though it is deleted
            pub at_marked : is_content (record { units = units; live = live }) ≡ false → IsNone format n bytes
            at_marked other cell is spelled =
                let same : ◌≡◌ {A = Content} (record { units = units; live = live }) cell.content =
                λ i. record { units = (is_behind_content cell [] is (alone cell spelled)).0 i; live = (is_behind_mark cell [] is (alone cell spelled)).0 i } in
                absurd (true≢false (sym is.milestone.content ∙ (sym (ap is_content same) ∙ other)))

            same_sources : (cell : Cell) (more : List ℕ) → IsCellIn format n cell → bytes ≡ cell_body_in format n cell ++ more → AreSources format revision cell.sources
            same_sources cell more is spelled = subst (λ k. AreSources format k cell.sources) (sym (is_behind_revision cell more is spelled).0) (sources_of format n cell is)

            pub at_sources : BeginsNone (sources_bytes format) (AreSources format revision) filled_rest → IsNone format n bytes
            at_sources none cell is spelled =
                none cell.sources [] (same_sources cell [] is (alone cell spelled)) (is_behind_content cell [] is (alone cell spelled)).1

            module _ (all : Sources) (rest_of_all : List ℕ) (are : AreSources format revision all) (sources_there : filled_rest ≡ sources_bytes format all ++ rest_of_all) where
              abbrev found : Cell
              found = record { name = name; revision = revision; content = record { units = units; live = live }; sources = all }

              last_part : (cell : Cell) (more : List ℕ) → IsCellIn format n cell → bytes ≡ cell_body_in format n cell ++ more → (all ≡ cell.sources) × (rest_of_all ≡ more)
              last_part cell more is spelled =
                  one_sources format revision (omega (arith, revised.1)) all cell.sources rest_of_all more are (same_sources cell more is spelled)
                  (sym sources_there ∙ (is_behind_content cell more is spelled).1)

              pub at_end : 0 < length rest_of_all → IsNone format n bytes
              at_end some cell is spelled = absurd (omega (arith, some, ap (length {A = ℕ}) (last_part cell [] is (alone cell spelled)).1))

              pub is_the_one : (cell : Cell) (more : List ℕ) → IsCellIn format n cell → bytes ≡ cell_body_in format n cell ++ more → found ≡ cell
              is_the_one cell more is spelled = λ i. record {
                name = (is_behind_name cell more is spelled).0 i;
                revision = (is_behind_revision cell more is spelled).0 i;
                content = record { units = (is_behind_content cell more is spelled).0 i; live = (is_behind_mark cell more is spelled).0 i };
                sources = (last_part cell more is spelled).0 i;
              }

              pub all_found : is_content (record { units = units; live = live }) ≡ true → rest_of_all ≡ [] → IsCellIn format n found × (bytes ≡ cell_body_in format n found)
              all_found may none = (
                record {
                  document = low;
                  milestone = record { name = named; first = revised.0; last = revised.1; content = may; named = all_named format revision all are; sources = all_last format revision all are };
                  content = filled;
                  count = are.count;
                  mark = marked;
                  windows = all_spelled format revision all are;
                },
                there
                    ∙ ap (λ (l : List ℕ). number w32 n ++ l) (name_there
                    ∙ ap (λ (l : List ℕ). text16 name ++ l) (revision_there
                    ∙ ap (λ (l : List ℕ). number w64 revision ++ l) (mark_there
                    ∙ ap (λ (l : List ℕ). mark format live ++ l) (content_there
                    ∙ ap (λ (l : List ℕ). content_bytes units ++ l) (sources_there ∙ ap (λ (l : List ℕ). sources_bytes format all ++ l) none)))))
                    ∙ sym (cell_parts format n found [])
                    ∙ append-nil (cell_body_in format n found),
              )

-- Two cells of a document whose bodies begin one list of bytes are equal.
pub one_cell_body : (format : Format) (n : ℕ) (a b : Cell) (x y : List ℕ) → IsCellIn format n a → IsCellIn format n b → cell_body_in format n a ++ x ≡ cell_body_in format n b ++ y → a ≡ b
one_cell_body format n a b x y is_a is_b same =
    is_the_one format n is_a.document (cell_body_in format n a ++ x) (behind_document format a x) (cell_parts format n a x)
    a.name (behind_name format a x) is_a.milestone.name refl
    a.revision (behind_revision format a x) (is_a.milestone.first, is_a.milestone.last) refl
    a.content.live (behind_mark format a x) is_a.mark refl
    a.content.units (sources_bytes format a.sources ++ x) is_a.content refl
    a.sources x (sources_of format n a is_a) refl b y is_b same
