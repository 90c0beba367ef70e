-- A map of attributes, beside the members that describe it.
use Rattle.std.proofs.Common.{◌≡◌, ℕ, List, [], ◌∷◌, Option, Some, Ordering, Less, Equal, Greater, refl, ap, ◌∙◌, subst}
use Rattle.std.specs.FinMap.Entries as entries
use Rattle.std.specs.FinMap.Entries.{by_order}
use Rattle.std.specs.Ordering.{match_ordering}
use Rattle.serde_json.specs.Data.{Data, Members, no_members, member, put, object}
use Rattle.attributes.specs.Map.{Map, by_bytes, empty, insert}
use Rattle.attributes.specs.Attributes.{IsKey}
use Rattle.attributes.specs.Laws.{with_entries}
use Rattle.attributes.proofs.Prefixes.{with_entries-all}
use Rattle.optext.specs.Described.{key_of, with_members, described_by}
use Rattle.session.specs.steps.Tokened.{AreEntries}
use Rattle.optext.proofs.CallerLemmas.{key_of-key}

module _ {X : Type 0} (value_of : Data → Option X) where
  -- members give the map of their entries
  with_members-entries : (m : Map X) (ms : Members) (es : List (List ℕ × X)) → AreEntries value_of ms es → with_members value_of m ms ≡ Some (with_entries m es)
  with_members-entries m no_members [] are = refl
  with_members-entries m no_members (e ∷ es) are = absurd are
  with_members-entries m (member name value ms) [] are = absurd are
  with_members-entries m (member name value ms) (e ∷ es) are = rw (are.1, are.2) (with_members-entries (insert m e.0 e.1) ms es are.3)

  -- an object describes the map of its members' entries
  pub described_by-entries : (map : Map X) (ms : Members) → AreEntries value_of ms map.entries → described_by value_of (Some (object ms)) ≡ Some map
  described_by-entries map ms are = with_members-entries empty ms map.entries are ∙ ap Some (with_entries-all map)

  put_at : (o : Ordering) (name : List ℕ) (value : Data) (x : X) (l : List ℕ) (d : Data) (ms : Members) (e : List ℕ × X) (es : List (List ℕ × X))
      → key_of name ≡ Some name → value_of value ≡ Some x → AreEntries value_of (member l d ms) (e ∷ es)
      → AreEntries value_of (put name value ms) (entries.put by_bytes name x es)
      → AreEntries value_of (match_ordering o (member name value (member l d ms)) (member l value ms) (member l d (put name value ms)))
      (by_order o ((name, x) ∷ e ∷ es) ((e.0, x) ∷ es) (e ∷ entries.put by_bytes name x es))
  put_at Less name value x l d ms e es key is are later = (refl, key, is, are)
  put_at Equal name value x l d ms e es key is are later = (are.0, are.1, is, are.3)
  put_at Greater name value x l d ms e es key is are later = (are.0, are.1, are.2, later)

  -- one member more
  pub entries-put : (name : List ℕ) (value : Data) (x : X) (ms : Members) (es : List (List ℕ × X))
      → key_of name ≡ Some name → value_of value ≡ Some x → AreEntries value_of ms es → AreEntries value_of (put name value ms) (entries.put by_bytes name x es)
  entries-put name value x no_members [] key is are = (refl, key, is, tt)
  entries-put name value x no_members (e ∷ es) key is are = absurd are
  entries-put name value x (member l d ms) [] key is are = absurd are
  entries-put name value x (member l d ms) (e ∷ es) key is are =
      subst (λ other. AreEntries value_of (put name value (member l d ms)) (by_order (by_bytes name other) ((name, x) ∷ e ∷ es) ((e.0, x) ∷ es) (e ∷ entries.put by_bytes name x es))) are.0
      (put_at (by_bytes name l) name value x l d ms e es key is are (entries-put name value x ms es key is are.3))

  pub entries-insert : (map : Map X) (name : List ℕ) (value : Data) (x : X) (ms : Members)
      → IsKey name → value_of value ≡ Some x → AreEntries value_of ms map.entries → AreEntries value_of (put name value ms) (insert map name x).entries
  unfolding insert
  entries-insert map name value x ms key is are = entries-put name value x ms map.entries (key_of-key name key) is are
