-- What a mark that is set or raised makes of all.
use Rattle.std.proofs.Common.{◌≡◌, ◌≢◌, ◌⊎◌, inl, inr, ℕ, zero, suc, ◌<◌, ◌≤◌, max, true, false, List, [], ◌∷◌, ◌++◌, length, set, get_or, not, refl, sym, ◌∙◌, ap, arith, length-append}
use Rattle.std.specs.Prelude.{◌==◌}
use Rattle.std.proofs.lemmas.List.{length-set}
use Rattle.std.proofs.lemmas.List.Filters.{length-filter_both}
use Rattle.std.proofs.lemmas.Bool.{cases_eq}
use Rattle.std.proofs.lemmas.Bool.Decides.{nat_tests}
use Rattle.revision.specs.Command.{Taken}
use Rattle.history.specs.Entries.{greatest}
use Rattle.recovery.specs.declared.marks.Mark.{Mark}
use Rattle.recovery.specs.Marks.{is_of, without_segment, revision_for, greatest_marked, Raised, IsNoted}

-- a mark more
pub marked_push : (segment document : ℕ) (marks : List Mark) (mark : Mark) → greatest_marked segment document (marks ++ mark ∷ []) ≡ max (revision_for segment document mark) (greatest_marked segment document marks)
marked_push segment document [] mark = refl
marked_push segment document (first ∷ others) mark = omega (arith, marked_push segment document others mark)

-- a mark that is another
pub marked_set : (segment document more : ℕ) (marks : List Mark) (place : ℕ) (old mark : Mark) → place < length marks → get_or marks place old ≡ old
    → revision_for segment document mark ≡ max more (revision_for segment document old)
    → greatest_marked segment document (set marks place mark) ≡ max more (greatest_marked segment document marks)
marked_set segment document more [] place old mark inside is raised = absurd (omega (arith, inside))
marked_set segment document more (first ∷ others) zero old mark inside is raised = omega (arith, raised, ap (revision_for segment document) is)
marked_set segment document more (first ∷ others) (suc place) old mark inside is raised =
    omega (arith, marked_set segment document more others place old mark (omega (arith, inside)) is raised)

-- what a mark says of its own document, and of others
pub own : (segment document revision : ℕ) → revision_for segment document (record { segment = segment; document = document; revision = revision }) ≡ revision
own segment document revision =
    let first : (segment == segment) ≡ true = grind (arith, nat_tests) in
    let second : (document == document) ≡ true = grind (arith, nat_tests) in
    rw (first, second) refl

pub other_document : (segment document : ℕ) (mark : Mark) → document ≢ mark.document → revision_for segment document mark ≡ 0
other_document segment document mark other =
    let second : (mark.document == document) ≡ false = grind (arith, nat_tests) in
    elim (cases_eq mark.segment segment) [
      | inl same ↦ let first : (mark.segment == segment) ≡ true = grind (arith, nat_tests) in rw (first, second) refl
      | inr apart ↦ let first : (mark.segment == segment) ≡ false = grind (arith, nat_tests) in rw first refl
    ]

pub other_segment : (segment document : ℕ) (mark : Mark) → segment ≢ mark.segment → revision_for segment document mark ≡ 0
other_segment segment document mark other = let first : (mark.segment == segment) ≡ false = grind (arith, nat_tests) in rw first refl

-- a mark is set where there is none
pub raised_push : (segment document revision : ℕ) (marks : List Mark) → Raised segment document revision marks (marks ++ record { segment = segment; document = document; revision = revision } ∷ [])
raised_push segment document revision marks =
    let mark : Mark = record { segment = segment; document = document; revision = revision } in
    record {
      here = omega (arith, marked_push segment document marks mark, own segment document revision);
      documents = λ other apart. omega (arith, marked_push segment other marks mark, other_document segment other mark apart);
      segments = λ other number apart. omega (arith, marked_push other number marks mark, other_segment other number mark apart);
      grows = omega (arith, length-append marks (mark ∷ []));
    }

-- a mark is raised
pub raised_set : (segment document revision : ℕ) (marks : List Mark) (place : ℕ) (old : Mark) → place < length marks → get_or marks place old ≡ old
    → old.segment ≡ segment → old.document ≡ document → (top : ℕ) → top ≡ max old.revision revision
    → Raised segment document revision marks (set marks place (record { segment = segment; document = document; revision = top }))
raised_set segment document revision marks place old inside is same_segment same_document top highest =
    let mark : Mark = record { segment = segment; document = document; revision = top } in
    let was : revision_for segment document old ≡ old.revision = rw (← same_segment, ← same_document) (own old.segment old.document old.revision) in
    record {
      here = marked_set segment document revision marks place old mark inside is (omega (arith, own segment document top, was, highest));
      documents = λ other apart.
          omega (arith, marked_set segment other 0 marks place old mark inside is (omega (arith, other_document segment other mark apart, other_document segment other old (rw same_document apart))));
      segments = λ other number apart.
          omega (arith, marked_set other number 0 marks place old mark inside is (omega (arith, other_segment other number mark apart, other_segment other number old (rw same_segment apart))));
      grows = omega (arith, length-set marks place mark);
    }

-- one entry more
greatest_here : (entries : List Taken) (last : Taken) (document : ℕ) → last.document ≡ document → greatest document (entries ++ last ∷ []) ≡ max last.revision (greatest document entries)
greatest_here [] last document is = let test : (last.document == document) ≡ true = grind (arith, nat_tests) in rw test refl
greatest_here (first ∷ others) last document is = elim (cases_eq first.document document) [
  | inl same ↦ let test : (first.document == document) ≡ true = grind (arith, nat_tests) in rw test (omega (arith, greatest_here others last document is))
  | inr apart ↦ let test : (first.document == document) ≡ false = grind (arith, nat_tests) in rw test (greatest_here others last document is)
]

greatest_else : (entries : List Taken) (last : Taken) (document : ℕ) → last.document ≢ document → greatest document (entries ++ last ∷ []) ≡ greatest document entries
greatest_else [] last document other = let test : (last.document == document) ≡ false = grind (arith, nat_tests) in rw test refl
greatest_else (first ∷ others) last document other = elim (cases_eq first.document document) [
  | inl same ↦ let test : (first.document == document) ≡ true = grind (arith, nat_tests) in rw test (ap (max first.revision) (greatest_else others last document other))
  | inr apart ↦ let test : (first.document == document) ≡ false = grind (arith, nat_tests) in rw test (greatest_else others last document other)
]

pub noted_more : (segment : ℕ) (entries : List Taken) (last : Taken) (before mid after : List Mark) → IsNoted segment entries before mid
    → Raised segment last.document last.revision mid after → IsNoted segment (entries ++ last ∷ []) before after
noted_more segment entries last before mid after noted raised = record {
  here = λ document. elim (cases_eq last.document document) [
    | inl same ↦
        let now : greatest_marked segment document after ≡ max last.revision (greatest_marked segment document mid) = rw (← same) raised.here in
        omega (arith, now, noted.here document, greatest_here entries last document same)
    | inr apart ↦
        omega (arith, raised.documents document (λ same. apart (sym same)), noted.here document, greatest_else entries last document apart)
  ];
  segments = λ other document apart. raised.segments other document apart ∙ noted.segments other document apart;
  grows = omega (arith, raised.grows, noted.grows, length-append entries (last ∷ []));
}

-- a mark is no higher than the greatest one
pub marked_member : (segment : ℕ) (marks : List Mark) (place : ℕ) (mark : Mark) → place < length marks → get_or marks place mark ≡ mark → mark.segment ≡ segment
    → mark.revision ≤ greatest_marked segment mark.document marks
marked_member segment [] place mark inside is here = absurd (omega (arith, inside))
marked_member segment (first ∷ others) zero mark inside is here =
    let own_revision : revision_for segment mark.document first ≡ mark.revision = ap (revision_for segment mark.document) is ∙ rw (← here) (own mark.segment mark.document mark.revision) in
    omega (arith, own_revision)
marked_member segment (first ∷ others) (suc place) mark inside is here = omega (arith, marked_member segment others place mark (omega (arith, inside)) is here)

-- a bound of the greatest marks holds with one mark more that keeps it
pub low_more : (segment : ℕ) (marks : List Mark) (mark : Mark) (bound : ℕ → ℕ) → ((document : ℕ) → greatest_marked segment document marks ≤ bound document)
    → (mark.segment ≢ segment) ⊎ (mark.revision ≤ bound mark.document) → (document : ℕ) → greatest_marked segment document (marks ++ mark ∷ []) ≤ bound document
low_more segment marks mark bound low (inl other) document =
    omega (arith, marked_push segment document marks mark, low document, other_segment segment document mark (λ same. other (sym same)))
low_more segment marks mark bound low (inr here) document = elim (cases_eq mark.document document) [
  | inl same ↦ omega (arith, marked_push segment document marks mark, low document, no_more segment document mark, here, ap bound same)
  | inr apart ↦ omega (arith, marked_push segment document marks mark, low document, other_document segment document mark (λ same. apart (sym same)))
]
  where
    no_more : (segment document : ℕ) (mark : Mark) → revision_for segment document mark ≤ mark.revision
    no_more segment document mark = elim (cases_eq mark.segment segment) [
      | inr away ↦ omega (arith, other_segment segment document mark (λ same. away (sym same)))
      | inl is ↦ elim (cases_eq mark.document document) [
        | inr away ↦ omega (arith, other_document segment document mark (λ same. away (sym same)))
        | inl one ↦
            let first : (mark.segment == segment) ≡ true = grind (arith, nat_tests) in
            let second : (mark.document == document) ≡ true = grind (arith, nat_tests) in
            rw (first, second) (omega arith)
      ]
    ]

-- what stands at a place, whatever is given for a place past the end
pub read_again : (marks : List Mark) (place : ℕ) (other : Mark) → place < length marks → get_or marks place (get_or marks place other) ≡ get_or marks place other
read_again [] place other inside = absurd (omega (arith, inside))
read_again (first ∷ others) zero other inside = refl
read_again (first ∷ others) (suc place) other inside = read_again others place other (omega (arith, inside))

-- no more marks are left where those of a segment are forgotten
pub fewer_marks : (segment : ℕ) (marks : List Mark) → length (without_segment segment marks) ≤ length marks
fewer_marks segment marks =
    omega (arith, length-filter_both (λ (mark : Mark). not (is_of segment mark)) (λ (mark : Mark). not (not (is_of segment mark))) (λ mark. refl) marks)
