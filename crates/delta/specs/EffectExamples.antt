-- Effects on a document, computed: quill-delta's README, "Quick Example" and "Retain Operation".
use Rattle.std.specs.Prelude.{◌≡◌, ℕ, List, [], ◌∷◌, ◌++◌, Some, None, true, refl, codes}
use Rattle.attributes.specs.Map.{empty, insert, retain as retained}
use Rattle.attributes.specs.Attributes.{Attributes, Changes, changed_by}
use Rattle.attributes.specs.Scalar.{text_scalar, flag_scalar}
use Rattle.delta.specs.Element.{Element, letters}
use Rattle.delta.specs.Operation.{Operation, insert_text, insert_embed, retain, delete, base_of, out_of}
use Rattle.delta.specs.Gaps.{counted, apply}
use Rattle.delta.specs.Normal.{nf, built}

abbrev bare : Attributes
bare = empty

abbrev plain : Changes
plain = empty

abbrev bold : Attributes
bold = insert empty (codes "bold") (flag_scalar true)

abbrev colored : List ℕ → Attributes
colored name = insert empty (codes "color") (text_scalar name)

-- 'Gandalf' in bold, ' the ', and a last word in its color
abbrev wizard : List ℕ → List ℕ → List Element
wizard word name = letters (codes "Gandalf") bold ++ (letters (codes " the ") bare ++ letters word (colored name))

-- retain 12, insert 'White', delete 4
abbrev death : List Operation
death = retain 12 plain ∷ insert_text (codes "White") (colored (codes "#fff")) ∷ delete 4 ∷ []

-- Gandalf the Grey becomes Gandalf the White
gandalf_the_white : apply (wizard (codes "Grey") (codes "#ccc")) (counted death) ≡ wizard (codes "White") (codes "#fff")
unfolding insert changed_by
gandalf_the_white = refl

-- it stands on 16 units and makes 17
death_base : base_of death ≡ 16
death_base = refl

death_out : out_of death ≡ 17
death_out = refl

-- a delete before the insert is the same delta
deleted_first : nf (counted (retain 12 plain ∷ delete 4 ∷ insert_text (codes "White") (colored (codes "#fff")) ∷ [])) ≡ death
unfolding insert
deleted_first = refl

-- keep and bold two units, and take it back
abbrev bolden : Changes
bolden = insert empty (codes "bold") (Some (flag_scalar true))

abbrev unbolden : Changes
unbolden = insert empty (codes "bold") None

retain_bold : apply (letters (codes "abc") bare) (counted (retain 2 bolden ∷ [])) ≡ letters (codes "ab") bold ++ letters (codes "c") bare
unfolding insert changed_by
retain_bold = refl

retain_unbold : apply (letters (codes "ab") bold ++ letters (codes "c") bare) (counted (retain 2 unbolden ∷ [])) ≡ letters (codes "abc") bare
unfolding insert retained changed_by
retain_unbold = refl

-- retains of one change are merged, of two they are not
retains : built (retain 1 bolden ∷ retain 2 bolden ∷ retain 3 unbolden ∷ []) ≡ retain 3 bolden ∷ retain 3 unbolden ∷ []
unfolding insert
retains = refl

-- an embed is one unit, and never merged
abbrev picture : Operation
picture = insert_embed (codes "image") (text_scalar (codes "https://octodex.github.com/images/labtocat.png")) bare

embeds : built (insert_text (codes "a") bare ∷ picture ∷ picture ∷ insert_text (codes "b") bare ∷ []) ≡ insert_text (codes "a") bare ∷ picture ∷ picture ∷ insert_text (codes "b") bare ∷ []
embeds = refl

embed_between : built (insert_text (codes "a") bare ∷ delete 1 ∷ picture ∷ delete 1 ∷ insert_text (codes "b") bare ∷ []) ≡ insert_text (codes "a") bare ∷ picture ∷ insert_text (codes "b") bare ∷ delete 2 ∷ []
embed_between = refl
