-- The members of an edit, read in any order.
use Rattle.std.proofs.Common.{◌≡◌, ℕ, suc, ◌<◌, ◌≤◌, ◌^◌, List, Option, Some, None, Ok, option_map, true, false, cond, Bor, Ordering, Less, Equal, Greater, bytes_eq, nat_cmp, Err, true≢false, refl, sym, ap, subst, ◌∙◌, arith}
use Rattle.std.proofs.lemmas.Slice.Eq.{bytes_eq-Decides}
use Rattle.std.proofs.lemmas.Bool.Decides.{nat_tests}
use Rattle.std.specs.Prelude.{codes}
use Rattle.std.specs.Cmp.Lexicographic.{slice_cmp}
use Rattle.std.specs.Ordering.{match_ordering}
use Rattle.json.specs.Token.{Token}
use Rattle.serde_json.specs.Data.{Data, string, number, unsigned, array, object, Items, Members, no_members, member, put}
use Rattle.serde_json.specs.Events.{members_len}
use Rattle.serde_json.specs.Find.{get_member}
use Rattle.serde_json.proofs.Views.{get_member-put, get_member-put_other}
use Rattle.delta.specs.Operation.{Operation}
use Rattle.optext.specs.Described.{delta_of}
use Rattle.refusal.specs.declared.Refusal.TheVariants.{BadName}
use Rattle.revision.specs.Name.{is_document_name}
use Rattle.revision.specs.Command.{Edit, Command}
use Rattle.session.specs.declared.tokened.fields.Fields.{Fields}
use Rattle.session.specs.declared.request.Request.TheVariants.{Ask}
use Rattle.session.specs.Message as message
use Rattle.session.specs.Message.{command_number, revision_number, message_of}
use Rattle.session.specs.Request.{of_value, of_message, with_delta}
use Rattle.session.specs.steps.Tokened.{Reads, Spells, DescribesDelta, IsDelta, AreFields, AddsField, IsEdit}
use Rattle.session.proofs.Objects.{deeper}

apart : (a b : List ℕ) → bytes_eq a b ≡ false → a ≡ b → ⊥
apart a b differ same = true≢false (sym ((bytes_eq-Decides a b).1 same) ∙ differ)

-- another member is unchanged
other : (q k : List ℕ) (d : Data) (ms : Members) → bytes_eq q k ≡ false → get_member q (put k d ms) ≡ get_member q ms
other q k d ms differ = get_member-put_other q k d ms (apart q k differ)

counted_at : (o : Ordering) (k l : List ℕ) (d e : Data) (ms : Members) → match_ordering o (get_member k ms) (Some e) (get_member k ms) ≡ None
    → (get_member k ms ≡ None → members_len (put k d ms) ≡ suc (members_len ms))
    → members_len (match_ordering o (member k d (member l e ms)) (member l d ms) (member l e (put k d ms))) ≡ suc (suc (members_len ms))
counted_at Less k l d e ms none later = refl
counted_at Equal k l d e ms none later = absurd (cc)
counted_at Greater k l d e ms none later = ap suc (later none)

-- a member that was not there is one more
pub members_len-put : (k : List ℕ) (d : Data) (ms : Members) → get_member k ms ≡ None → members_len (put k d ms) ≡ suc (members_len ms)
members_len-put k d no_members none = refl
members_len-put k d (member l e ms) none = counted_at (slice_cmp nat_cmp k l) k l d e ms none (members_len-put k d ms)

module _ (old new : Fields) (ts r : List Token) where
  pub adds_base : (n : ℕ) → old.base ≡ None → new ≡ record old { base = Some n } → Reads 0 ts (number (unsigned n)) r → AddsField old (codes "base") new ts r
  adds_base n none is reads ms are = (
    are.base ∙ ap (option_map (λ m. number (unsigned m))) none,
    (
      number (unsigned n),
      subst (λ (f : Fields). AreFields f (put (codes "base") (number (unsigned n)) ms)) (sym is) (record {
        kind = other (codes "do") (codes "base") _ ms refl ∙ are.kind;
        doc = other (codes "doc") (codes "base") _ ms refl ∙ are.doc;
        numbered = other (codes "n") (codes "base") _ ms refl ∙ are.numbered;
        base = get_member-put (codes "base") _ ms;
        delta = subst (IsDelta old.delta) (sym (other (codes "ops") (codes "base") (number (unsigned n)) ms refl)) are.delta;
      }),
      deeper 0 3 ts _ r (omega arith) reads,
    ),
  )

  pub adds_number : (n : ℕ) → old.number ≡ None → new ≡ record old { number = Some n } → Reads 0 ts (number (unsigned n)) r → AddsField old (codes "n") new ts r
  adds_number n none is reads ms are = (
    are.numbered ∙ ap (option_map (λ m. number (unsigned m))) none,
    (
      number (unsigned n),
      subst (λ (f : Fields). AreFields f (put (codes "n") (number (unsigned n)) ms)) (sym is) (record {
        kind = other (codes "do") (codes "n") _ ms refl ∙ are.kind;
        doc = other (codes "doc") (codes "n") _ ms refl ∙ are.doc;
        numbered = get_member-put (codes "n") _ ms;
        base = other (codes "base") (codes "n") _ ms refl ∙ are.base;
        delta = subst (IsDelta old.delta) (sym (other (codes "ops") (codes "n") (number (unsigned n)) ms refl)) are.delta;
      }),
      deeper 0 3 ts _ r (omega arith) reads,
    ),
  )

  pub adds_doc : (s : Bor (List ℕ)) → old.doc ≡ None → new ≡ record old { doc = Some s } → Reads 0 ts (string s.now) r → AddsField old (codes "doc") new ts r
  adds_doc s none is reads ms are = (
    are.doc ∙ ap (option_map (λ (t : Bor (List ℕ)). string t.now)) none,
    (
      string s.now,
      subst (λ (f : Fields). AreFields f (put (codes "doc") (string s.now) ms)) (sym is) (record {
        kind = other (codes "do") (codes "doc") _ ms refl ∙ are.kind;
        doc = get_member-put (codes "doc") _ ms;
        numbered = other (codes "n") (codes "doc") _ ms refl ∙ are.numbered;
        base = other (codes "base") (codes "doc") _ ms refl ∙ are.base;
        delta = subst (IsDelta old.delta) (sym (other (codes "ops") (codes "doc") (string s.now) ms refl)) are.delta;
      }),
      deeper 0 3 ts _ r (omega arith) reads,
    ),
  )

  pub adds_kind : old.edits ≡ false → new ≡ record old { edits = true } → Reads 0 ts (string (codes "edit")) r → AddsField old (codes "do") new ts r
  adds_kind none is reads ms are = (
    are.kind ∙ ap (λ b. cond b (Some (string (codes "edit"))) None) none,
    (
      string (codes "edit"),
      subst (λ (f : Fields). AreFields f (put (codes "do") (string (codes "edit")) ms)) (sym is) (record {
        kind = get_member-put (codes "do") _ ms;
        doc = other (codes "doc") (codes "do") _ ms refl ∙ are.doc;
        numbered = other (codes "n") (codes "do") _ ms refl ∙ are.numbered;
        base = other (codes "base") (codes "do") _ ms refl ∙ are.base;
        delta = subst (IsDelta old.delta) (sym (other (codes "ops") (codes "do") (string (codes "edit")) ms refl)) are.delta;
      }),
      deeper 0 3 ts _ r (omega arith) reads,
    ),
  )

  pub adds_delta : (delta : List Operation) → old.delta ≡ None → new ≡ record old { delta = Some delta } → Spells (DescribesDelta delta) 3 ts r → AddsField old (codes "ops") new ts r
  adds_delta delta none is spells ms are = (
    subst (λ (o : Option (List Operation)). IsDelta o (get_member (codes "ops") ms)) none are.delta,
    (
      spells.0,
      subst (λ (f : Fields). AreFields f (put (codes "ops") spells.0 ms)) (sym is) (record {
        kind = other (codes "do") (codes "ops") _ ms refl ∙ are.kind;
        doc = other (codes "doc") (codes "ops") _ ms refl ∙ are.doc;
        numbered = other (codes "n") (codes "ops") _ ms refl ∙ are.numbered;
        base = other (codes "base") (codes "ops") _ ms refl ∙ are.base;
        delta = (spells.0, get_member-put (codes "ops") spells.0 ms, spells.1);
      }),
      spells.2,
    ),
  )

-- ---- the command of an edit

message_is : (ms : Members) (doc : List ℕ) (n base : ℕ) (items : Items) → members_len ms ≡ 5 → get_member (codes "do") ms ≡ Some (string (codes "edit"))
    → get_member (codes "doc") ms ≡ Some (string doc) → get_member (codes "n") ms ≡ Some (number (unsigned n)) → get_member (codes "base") ms ≡ Some (number (unsigned base))
    → get_member (codes "ops") ms ≡ Some (array items) → command_number n ≡ Some n → revision_number base ≡ Some base
    → message_of (object ms) ≡ Some (message.Edit doc n base items)
message_is ms doc n base items len kind is_doc is_n is_base is_ops counts holds =
    rw (kind, len, is_doc, is_n, is_base, is_ops, counts, holds) refl

numbers : (n : ℕ) → 1 ≤ n → n < 2 ^ 53 → command_number n ≡ Some n
numbers n some small = grind (arith, nat_tests)

revisions : (n : ℕ) → n < 2 ^ 53 → revision_number n ≡ Some n
revisions n small = grind (arith, nat_tests)

pub edit_due : (fields : Fields) (source : List ℕ) (value : Data) (doc : Bor (List ℕ)) (n base : ℕ) (delta : List Operation) (command : Command)
    → fields.edits ≡ true → fields.doc ≡ Some doc → fields.number ≡ Some n → fields.base ≡ Some base → fields.delta ≡ Some delta
    → 1 ≤ n → n < 2 ^ 53 → base < 2 ^ 53 → is_document_name doc.now ≡ true
    → with_delta source doc.now n (Edit base) (Ok delta) ≡ Ok (Ask command) → IsEdit fields value → of_value (Some source) (Some value) ≡ Ok (Ask command)
edit_due fields source value doc n base delta command edits has_doc has_n has_base has_delta some small low named asked is =
    let ms = is.0 in
    let are = is.2 in
    let ops = subst (λ (o : Option (List Operation)). IsDelta o (get_member (codes "ops") ms)) has_delta are.delta in
    let items = ops.2.0 in
    let read = message_is ms doc.now n base items is.3 (are.kind ∙ ap (λ b. cond b (Some (string (codes "edit"))) None) edits)
    (are.doc ∙ ap (option_map (λ (t : Bor (List ℕ)). string t.now)) has_doc) (are.numbered ∙ ap (option_map (λ m. number (unsigned m))) has_n)
    (are.base ∙ ap (option_map (λ m. number (unsigned m))) has_base) (ops.1 ∙ ap Some ops.2.1) (numbers n some small) (revisions base low) in
    ap (λ v. of_value (Some source) (Some v)) is.1
    ∙ ap (λ m. of_message (Some source) m) read
    ∙ ap (λ b. cond b (with_delta source doc.now n (Edit base) (delta_of items)) (Err BadName)) named
    ∙ ap (with_delta source doc.now n (Edit base)) ops.2.2
    ∙ asked
