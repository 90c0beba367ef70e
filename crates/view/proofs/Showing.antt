-- A batch more is shown.
use Rattle.std.proofs.Common.{◌≡◌, Result, Ok, Err, List, [], ◌∷◌, ◌++◌, fold, refl, ap, ap₂, sym, subst, ◌∙◌, ◌&&◌, Bool, true}
use Rattle.std.specs.Prelude.{MatchBool, MatchResult, is_ok}
use Rattle.std.proofs.lemmas.Bool.{and_parts}
use Rattle.delta.specs.Element.{Element}
use Rattle.revision.specs.Command.{Taken}
use Rattle.revision.specs.Made.{AreMade}
use Rattle.revision.specs.State as state
use Rattle.recovery.specs.Found.{commands_of}
use Rattle.view.specs.News.{News, GoesOn}
use Rattle.view.specs.Shown.{Seen, basis_of, after, IsShown}
use Rattle.view.specs.Stages.{news_of, AreShown}
use Rattle.view.specs.declared.shown.Basis.{Basis}
pub use Rattle.recovery.proofs.CallerLemmas.{commands_of-push as commands_more}

-- commands in turn make what the later ones make of what the first have made
fold_join : (s : state.State) (xs ys : List Taken) → state.fold s (xs ++ ys) ≡ state.fold (state.fold s xs) ys
fold_join s [] ys = refl
fold_join s (x ∷ xs) ys = fold_join (state.grown s x) xs ys

-- commands in turn continue a state where the first do, and the later ones what those make
grow_join : (s : state.State) (xs ys : List Taken) → state.all_grow s xs ≡ true → state.all_grow (state.fold s xs) ys ≡ true → state.all_grow s (xs ++ ys) ≡ true
grow_join s [] ys first later = later
grow_join s (x ∷ xs) ys first later =
    let parts : (state.grows s x ≡ true) × (state.all_grow (state.grown s x) xs ≡ true) = search (and_parts, first) in
    ap₂ (λ a b. a && b) parts.0 (grow_join (state.grown s x) xs ys parts.1 later)

-- what shows these batches and takes in one more shows them all
pub shows_more : (start : state.State) (told next : List (List Taken)) (batch : List Taken) (old new : Seen) (waiting : List News)
    → AreShown start told old → waiting ≡ news_of batch next ∷ [] → next ≡ told ++ batch ∷ []
    → basis_of new ≡ fold after (basis_of old) waiting → IsShown start new
shows_more start told next batch old new waiting shows waits more goes =
    let is : basis_of new ≡ after (basis_of old) (news_of batch next) = goes ∙ ap (fold after (basis_of old)) waits in
    let batches : new.published ≡ told ++ batch ∷ [] = ap (λ b. b.published) is ∙ more in
    let commands : commands_of new.published ≡ commands_of told ++ batch = ap commands_of batches ∙ commands_more told batch in
    let before : old.state ≡ state.fold start (commands_of told) = shows.0.made ∙ ap (λ l. state.fold start (commands_of l)) shows.1 in
    let goes_on : new.state ≡ state.fold (state.fold start (commands_of told)) batch = ap (λ b. b.state) is ∙ ap (λ s. state.fold s batch) before in
    let all : state.fold start (commands_of new.published) ≡ state.fold (state.fold start (commands_of told)) batch =
    ap (state.fold start) commands ∙ fold_join start (commands_of told) batch in
    let first : state.all_grow start (commands_of told) ≡ true = subst (λ (l : List (List Taken)). state.all_grow start (commands_of l) ≡ true) shows.1 shows.0.grew in
    let later : state.all_grow (state.fold start (commands_of told)) batch ≡ true =
    subst (λ (s : state.State). state.all_grow s batch ≡ true) before (sym (ap (λ b. b.grew) is)) in
    record {
      made = goes_on ∙ sym all;
      grew = ap (state.all_grow start) commands ∙ grow_join start (commands_of told) batch first later;
    }

abbrev pub basis : state.State → List (List Taken) → Bool → Basis
basis made published grew = record { state = made; published = published; grew = grew }

-- a copy that has absorbed a batch
pub absorbs : (before made : state.State) (batch : List Taken) (published other : List (List Taken)) → made ≡ state.fold before batch → state.all_grow before batch ≡ true → other ≡ published
    → basis made other true ≡ basis (state.fold before batch) published (true && state.all_grow before batch)
absorbs before made batch published other is grew same =
    ap₂ (λ (s : state.State) (rest : List (List Taken) × Bool). basis s rest.0 rest.1) is (ap₂ (λ (l : List (List Taken)) (b : Bool). (l, b)) same (sym grew))

-- a copy that shows what was published before a batch
module _ (start : state.State) (shown : Seen) (batch : List Taken) (documents : List (List Element)) (before after : List (List Taken)) (is : IsShown start shown)
    (goes : GoesOn start batch documents before after) (same : shown.published ≡ before) where
  there : shown.state ≡ state.fold start (commands_of before)
  there = is.made ∙ ap (λ (l : List (List Taken)). state.fold start (commands_of l)) same

  -- the documents beside the batch are those of this copy
  pub made_here : AreMade shown.state batch documents
  made_here = subst (λ (s : state.State). AreMade s batch documents) (sym there) goes.made

  -- and it shows the batch too, once it has absorbed it
  pub shows_after : (made : state.State) (published : List (List Taken)) → made ≡ state.fold shown.state batch → state.all_grow shown.state batch ≡ true → published ≡ after
      → IsShown start (record { state = made; published = published })
  shows_after made published made_is grow published_is =
      let commands : commands_of after ≡ commands_of before ++ batch = ap commands_of goes.next ∙ commands_more before batch in
      let first : state.all_grow start (commands_of before) ≡ true = ap (λ (l : List (List Taken)). state.all_grow start (commands_of l)) (sym same) ∙ is.grew in
      let later : state.all_grow (state.fold start (commands_of before)) batch ≡ true = ap (λ (s : state.State). state.all_grow s batch) (sym there) ∙ grow in
      subst (λ (l : List (List Taken)). IsShown start (record { state = made; published = l })) (sym published_is) (record {
        made = made_is ∙ ap (λ (s : state.State). state.fold s batch) there ∙ sym (ap (state.fold start) commands ∙ fold_join start (commands_of before) batch);
        grew = ap (state.all_grow start) commands ∙ grow_join start (commands_of before) batch first later;
      })

-- what a writer has still to show, after one more was given to it where nothing was waiting, or refused
pub was_appended : {V A : Type 0} (result : Result V A) (ok : Bool) (old new : List A) (news wanted : A) → ok ≡ is_ok result
    → MatchResult result (λ _. new ≡ old ++ news ∷ []) (λ x. (x ≡ news) × (new ≡ old)) → old ≡ [] → news ≡ wanted
    → MatchBool ok (new ≡ wanted ∷ []) (new ≡ [])
was_appended (Ok v) ok old new news wanted is told none same =
    subst (λ b. MatchBool b (new ≡ wanted ∷ []) (new ≡ [])) (sym is) (told ∙ ap (λ l. l ++ news ∷ []) none ∙ ap (λ n. n ∷ []) same)
was_appended (Err x) ok old new news wanted is told none same =
    subst (λ b. MatchBool b (new ≡ wanted ∷ []) (new ≡ [])) (sym is) (told.1 ∙ none)
