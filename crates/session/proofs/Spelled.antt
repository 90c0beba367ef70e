-- Lines that are spelled, member after member: each is the text of the reply's value.
use Rattle.std.proofs.Common.{◌≡◌, ◌++◌, ◌<◌, [], ◌∷◌, ℕ, List, true, refl, sym, ap, ap₂, ◌∙◌, append_assoc, arith}
use Rattle.std.specs.Prelude.{codes, decimal}
use Rattle.std.specs.List.{list_all}
use Rattle.std.proofs.lemmas.Bool.{and_parts, ne_eqb, le-ltb}
use Rattle.std.proofs.lemmas.Bool.Decides.{nat_tests}
use Rattle.json.specs.Print.{escape, escape_byte, quoted}
use Rattle.serde_json.specs.Data.{Data, Members, member, no_members, number, unsigned, string, object}
use Rattle.serde_json.specs.Written.{compact_text, members_text}
use Rattle.serde_json.proofs.OnLiterals.{serde_json_on_literals}
use Rattle.revision.specs.Name.{is_name_byte, is_document_name}
use Rattle.session.specs.declared.reply.Reply.{Reply}
use Rattle.session.specs.declared.reply.Reply.TheVariants.{Taken, Again}
use Rattle.session.specs.Reply.{kind_of, rev_of, acknowledgement_of, acknowledgement, subscribed_reply, unsubscribed_reply, since_with, document_with, news_with, ended_with, line_of}

-- ---- a name needs no escape

above_quote : (b : ℕ) → is_name_byte b ≡ true → 34 < b
above_quote b named = grind (arith, nat_tests)

no_backslash : (b : ℕ) → is_name_byte b ≡ true → b ≡ 92 → ⊥
no_backslash b named is = grind (arith, nat_tests)

plain_byte : (b : ℕ) → 34 < b → (b ≡ 92 → ⊥) → escape_byte b ≡ b ∷ []
unfolding escape_byte
plain_byte b above other =
    rw (
      ne_eqb b 34 (λ e. omega (arith, e)),
      ne_eqb b 92 other,
      ne_eqb b 8 (λ e. omega (arith, e)),
      ne_eqb b 12 (λ e. omega (arith, e)),
      ne_eqb b 10 (λ e. omega (arith, e)),
      ne_eqb b 13 (λ e. omega (arith, e)),
      ne_eqb b 9 (λ e. omega (arith, e)),
      le-ltb b 32 (omega arith),
    ) refl

plain_bytes : (text : List ℕ) → list_all is_name_byte text ≡ true → escape text ≡ text
plain_bytes [] named = refl
plain_bytes (b ∷ bytes) named =
    let parts = and_parts (is_name_byte b) (list_all is_name_byte bytes) named in
    ap₂ ◌++◌ (plain_byte b (above_quote b parts.0) (no_backslash b parts.0)) (plain_bytes bytes parts.1)

plain_name : (doc : List ℕ) → is_document_name doc ≡ true → escape doc ≡ doc
plain_name doc named = plain_bytes doc (and_parts _ (list_all is_name_byte doc) named).1

plain_kind : (reply : Reply) (kind : List ℕ) → kind ≡ kind_of reply → escape kind ≡ kind
unfolding serde_json_on_literals
plain_kind (Taken rev) kind is = ap escape is ∙ sym is
plain_kind (Again rev) kind is = ap escape is ∙ sym is

-- ---- a member, and the rest of the line

member_text : (key : List ℕ) (value : Data) (others : Members) (rest : List ℕ) → members_text true others ++ 10 ∷ [] ≡ rest
    → (quoted key ++ 58 ∷ (compact_text value ++ members_text true others)) ++ 10 ∷ [] ≡ (quoted key ++ 58 ∷ compact_text value) ++ rest
member_text key value others rest behind =
    append_assoc (quoted key) (58 ∷ (compact_text value ++ members_text true others)) (10 ∷ [])
    ∙ ap (λ l. quoted key ++ 58 ∷ l) (append_assoc (compact_text value) (members_text true others) (10 ∷ []) ∙ ap (λ l. compact_text value ++ l) behind)
    ∙ sym (append_assoc (quoted key) (58 ∷ compact_text value) rest)

first_member : (key : List ℕ) (value : Data) (others : Members) (rest : List ℕ) → members_text true others ++ 10 ∷ [] ≡ rest
    → line_of (object (member key value others)) ≡ 123 ∷ ((quoted key ++ 58 ∷ compact_text value) ++ rest)
first_member key value others rest behind = ap (λ l. 123 ∷ l) (member_text key value others rest behind)

next_member : (key : List ℕ) (value : Data) (others : Members) (rest : List ℕ) → members_text true others ++ 10 ∷ [] ≡ rest
    → members_text true (member key value others) ++ 10 ∷ [] ≡ 44 ∷ ((quoted key ++ 58 ∷ compact_text value) ++ rest)
next_member key value others rest behind = ap (λ l. 44 ∷ l) (member_text key value others rest behind)

-- a line that begins with a document's name
of_document : (doc : List ℕ) (others : Members) (begun rest : List ℕ) → is_document_name doc ≡ true
    → begun ≡ codes "{\"doc\":\"" ++ (doc ++ codes "\"") → members_text true others ++ 10 ∷ [] ≡ rest
    → begun ++ rest ≡ line_of (object (member (codes "doc") (string doc) others))
unfolding serde_json_on_literals
of_document doc others begun rest named is behind =
    ap (λ l. l ++ rest) is ∙ ap (λ d. (codes "{\"doc\":\"" ++ (d ++ codes "\"")) ++ rest) (sym (plain_name doc named))
    ∙ sym (first_member (codes "doc") (string doc) others rest behind)

-- ---- a line from its pieces, where each was added to the text before it

pushed_two : (a b c p q : List ℕ) → b ≡ a ++ p → c ≡ b ++ q → c ≡ a ++ (p ++ q)
pushed_two a b c p q first second = second ∙ ap (λ l. l ++ q) first ∙ append_assoc a p q

pushed_three : (a b c d p q r : List ℕ) → b ≡ a ++ p → c ≡ b ++ q → d ≡ c ++ r → d ≡ a ++ (p ++ (q ++ r))
pushed_three a b c d p q r first second third = pushed_two a b d p (q ++ r) first (pushed_two b c d q r second third)

pub spells_acknowledgement : (doc kind : List ℕ) (n rev : ℕ) (reply : Reply) (begun numbered told text : List ℕ) → is_document_name doc ≡ true
    → kind ≡ kind_of reply → rev ≡ rev_of reply
    → begun ≡ codes "{\"doc\":\"" ++ (doc ++ codes "\"")
    → numbered ≡ begun ++ (codes ",\"n\":" ++ decimal n)
    → told ≡ numbered ++ (codes ",\"ok\":\"" ++ (kind ++ codes "\""))
    → text ≡ told ++ (codes ",\"rev\":" ++ (decimal rev ++ codes "}\n"))
    → text ≡ line_of (acknowledgement doc n reply)
unfolding serde_json_on_literals
spells_acknowledgement doc kind n rev reply begun numbered told text named is_kind is_rev first second third fourth =
    let of_rev : Members = member (codes "rev") (number (unsigned rev)) no_members in
    let of_kind : Members = member (codes "ok") (string kind) of_rev in
    let of_number : Members = member (codes "n") (number (unsigned n)) of_kind in
    let end : List ℕ = codes ",\"rev\":" ++ (decimal rev ++ codes "}\n") in
    let word : List ℕ = codes ",\"ok\":\"" ++ (kind ++ codes "\"") in
    let digits : List ℕ = codes ",\"n\":" ++ decimal n in
    pushed_three begun numbered told text digits word end second third fourth
    ∙ of_document doc of_number begun (digits ++ (word ++ end)) named first
    (next_member (codes "n") (number (unsigned n)) of_kind (word ++ end)
    (next_member (codes "ok") (string kind) of_rev end (next_member (codes "rev") (number (unsigned rev)) no_members (codes "}\n") refl)
    ∙ ap (λ k. (codes ",\"ok\":\"" ++ (k ++ codes "\"")) ++ end) (plain_kind reply kind is_kind)))
    ∙ ap₂ (λ k r. line_of (acknowledgement_of doc n k r)) is_kind is_rev

pub spells_subscribed : (doc : List ℕ) (rev : ℕ) (begun text : List ℕ) → is_document_name doc ≡ true
    → begun ≡ codes "{\"doc\":\"" ++ (doc ++ codes "\"")
    → text ≡ begun ++ (codes ",\"ok\":\"subscribed\",\"rev\":" ++ (decimal rev ++ codes "}\n"))
    → text ≡ line_of (subscribed_reply doc rev)
unfolding serde_json_on_literals
spells_subscribed doc rev begun text named first second =
    let of_rev : Members = member (codes "rev") (number (unsigned rev)) no_members in
    second
    ∙ of_document doc (member (codes "ok") (string (codes "subscribed")) of_rev) begun _ named first
    (next_member (codes "ok") (string (codes "subscribed")) of_rev (codes ",\"rev\":" ++ (decimal rev ++ codes "}\n"))
    (next_member (codes "rev") (number (unsigned rev)) no_members (codes "}\n") refl))

pub spells_unsubscribed : (doc begun text : List ℕ) → is_document_name doc ≡ true
    → begun ≡ codes "{\"doc\":\"" ++ (doc ++ codes "\"")
    → text ≡ begun ++ codes ",\"ok\":\"unsubscribed\"}\n"
    → text ≡ line_of (unsubscribed_reply doc)
unfolding serde_json_on_literals
spells_unsubscribed doc begun text named first second =
    second ∙ of_document doc (member (codes "ok") (string (codes "unsubscribed")) no_members) begun _ named first refl

pub spells_ended : (doc : List ℕ) (refusal : ℕ) (begun text : List ℕ) → is_document_name doc ≡ true
    → begun ≡ codes "{\"doc\":\"" ++ (doc ++ codes "\"")
    → text ≡ begun ++ (codes ",\"ended\":" ++ (decimal refusal ++ codes "}\n"))
    → text ≡ line_of (ended_with doc refusal)
unfolding serde_json_on_literals
spells_ended doc refusal begun text named first second =
    second
    ∙ of_document doc (member (codes "ended") (number (unsigned refusal)) no_members) begun _ named first
    (next_member (codes "ended") (number (unsigned refusal)) no_members (codes "}\n") refl)

-- ---- lines with a document's content or its deltas, which are spelled by themselves

pub since_line : (doc : List ℕ) (deltas : Data) (rev : ℕ)
    → codes "{\"deltas\":" ++ (compact_text deltas ++ (codes ",\"doc\":" ++ (quoted doc ++ (codes ",\"ok\":\"since\",\"rev\":" ++ (decimal rev ++ codes "}\n")))))
    ≡ line_of (since_with doc deltas rev)
unfolding serde_json_on_literals
since_line doc deltas rev =
    let of_rev : Members = member (codes "rev") (number (unsigned rev)) no_members in
    let of_kind : Members = member (codes "ok") (string (codes "since")) of_rev in
    let of_doc : Members = member (codes "doc") (string doc) of_kind in
    let end : List ℕ = codes ",\"rev\":" ++ (decimal rev ++ codes "}\n") in
    let kind : List ℕ = codes ",\"ok\":\"since\"" ++ end in
    sym (first_member (codes "deltas") deltas of_doc (codes ",\"doc\":" ++ (quoted doc ++ kind))
    (next_member (codes "doc") (string doc) of_kind kind
    (next_member (codes "ok") (string (codes "since")) of_rev end (next_member (codes "rev") (number (unsigned rev)) no_members (codes "}\n") refl))))

pub fetched_line : (doc : List ℕ) (operations : Data) (rev : ℕ)
    → codes "{\"doc\":" ++ (quoted doc ++ (codes ",\"ok\":\"doc\",\"ops\":" ++ (compact_text operations ++ (codes ",\"rev\":" ++ (decimal rev ++ codes "}\n")))))
    ≡ line_of (document_with doc operations rev)
unfolding serde_json_on_literals
fetched_line doc operations rev =
    let of_rev : Members = member (codes "rev") (number (unsigned rev)) no_members in
    let of_operations : Members = member (codes "ops") operations of_rev in
    let of_kind : Members = member (codes "ok") (string (codes "doc")) of_operations in
    let end : List ℕ = codes ",\"rev\":" ++ (decimal rev ++ codes "}\n") in
    let body : List ℕ = codes ",\"ops\":" ++ (compact_text operations ++ end) in
    sym (first_member (codes "doc") (string doc) of_kind (codes ",\"ok\":\"doc\"" ++ body)
    (next_member (codes "ok") (string (codes "doc")) of_operations body
    (next_member (codes "ops") operations of_rev end (next_member (codes "rev") (number (unsigned rev)) no_members (codes "}\n") refl))))

pub change_line : (doc : List ℕ) (revision : ℕ) (operations : Data)
    → codes "{\"doc\":" ++ (quoted doc ++ (codes ",\"news\":" ++ (decimal revision ++ (codes ",\"ops\":" ++ (compact_text operations ++ codes "}\n")))))
    ≡ line_of (news_with doc revision operations)
unfolding serde_json_on_literals
change_line doc revision operations =
    let of_operations : Members = member (codes "ops") operations no_members in
    let end : List ℕ = codes ",\"ops\":" ++ (compact_text operations ++ codes "}\n") in
    let digits : List ℕ = codes ",\"news\":" ++ (decimal revision ++ end) in
    sym (first_member (codes "doc") (string doc) (member (codes "news") (number (unsigned revision)) of_operations) digits
    (next_member (codes "news") (number (unsigned revision)) of_operations end
    (next_member (codes "ops") operations no_members (codes "}\n") refl)))
