-- Documents stand beside the commands of an order, as it grows and as commands are taken off it.
use Rattle.std.proofs.Common.{◌≡◌, ◌⊎◌, ℕ, ◌+◌, ◌≤◌, List, [], ◌∷◌, ◌++◌, length, take, drop, refl, sym, ap, subst, ◌∙◌, arith, inl, inr, take-add, drop-drop, length-append, length-drop}
use Rattle.std.specs.Prelude.{Bool, true, false, if◌then◌else◌}
use Rattle.std.proofs.lemmas.List.{length-map, map-append, take-append-drop, take-append-le, drop-append-le}
use Rattle.std.proofs.lemmas.Bool.Decides.{nat_tests}
use Rattle.std.proofs.Math.Seq.{take-append_seam}
use mathlib.Core.List.{IsPrefix}
use Rattle.delta.specs.Element.{Element}
use Rattle.revision.specs.Command.{Command, Taken}
use Rattle.revision.specs.Acceptance.{Answer, Takes, Repeats, Refuses, answer}
use Rattle.revision.specs.Made.{text_at, IsMade, AreMade}
use Rattle.revision.specs.State.{State, fold}
use Rattle.revision.proofs.CallerLemmas.{taken_grows, made_more, made_before, made_first, made_rest, fold-append}
use Rattle.world.specs.Progress.{Progress, Ticket, next_run, submitted, submitted_by, can_take, taken_more}
use Rattle.world.specs.World.{Entry, entry_of, takens}
use Rattle.hub.specs.Placed.{WasSubmitted}
use Rattle.hub.specs.Runs.{AreMadeThere, untaken}
use Rattle.hub.proofs.Placing.{TakenLast, WasBefore, takens-take, takens-drop}

-- the commands of a longer order
takens-append : (first others : List Entry) → takens (first ++ others) ≡ takens first ++ takens others
takens-append first others = map-append (λ (e : Entry). e.taken) first others

-- the state after an order is the one after its first commands, with the others
whole : (start : State) (order : List Entry) (n : ℕ) → fold (fold start (takens (take n order))) (takens (drop n order)) ≡ fold start (takens order)
whole start order n =
    sym (fold-append start (takens (take n order)) (takens (drop n order)))
    ∙ ap (fold start) (sym (takens-append (take n order) (drop n order)) ∙ ap takens (take-append-drop n order))

module _ (start : State) (order : List Entry) (entry : Entry) (n : ℕ) (within : n ≤ length order) where
  -- the same commands stand before those that aren't taken off
  before : takens (take n (order ++ entry ∷ [])) ≡ takens (take n order)
  before = ap takens (take-append-le n order (entry ∷ []) within)

  -- and these are one more
  longer : takens (drop n (order ++ entry ∷ [])) ≡ takens (drop n order) ++ entry.taken ∷ []
  longer = ap takens (drop-append-le n order (entry ∷ []) within) ∙ takens-append (drop n order) (entry ∷ [])

  there : (documents : List (List Element)) → AreMade (fold start (takens (take n order))) (takens (drop n order) ++ entry.taken ∷ []) documents
      → AreMadeThere start (order ++ entry ∷ []) n (takens (drop n (order ++ entry ∷ []))) documents
  there documents are =
      subst (λ (first : List Taken). AreMade (fold start first) (takens (drop n (order ++ entry ∷ []))) documents) (sym before)
      (subst (λ (commands : List Taken). AreMade (fold start (takens (take n order))) commands documents) (sym longer) are)

  -- a command more, beside which nothing stands
  command_more : (documents : List (List Element)) → AreMadeThere start order n (takens (drop n order)) documents
      → AreMadeThere start (order ++ entry ∷ []) n (takens (drop n (order ++ entry ∷ []))) documents
  command_more documents are =
      there documents (made_before (fold start (takens (take n order))) (takens (drop n order)) (entry.taken ∷ []) documents are)

  -- a command more, with its document
  document_more : (documents : List (List Element)) (document : List Element) → AreMadeThere start order n (takens (drop n order)) documents
      → length documents ≡ length (takens (drop n order)) → IsMade (fold start (takens order)) entry.taken document
      → AreMadeThere start (order ++ entry ∷ []) n (takens (drop n (order ++ entry ∷ []))) (documents ++ document ∷ [])
  document_more documents document are many is =
      there (documents ++ document ∷ [])
      (made_more (fold start (takens (take n order))) (takens (drop n order)) documents entry.taken document are many
      (subst (λ (s : State). IsMade s entry.taken document) (sym (whole start order n)) is))

  as_many : (old : List (List Element)) → length old + 1 ≡ length (takens (drop n (order ++ entry ∷ []))) → length old ≡ length (takens (drop n order))
  as_many old many = omega (arith, many, ap length longer, length-append (takens (drop n order)) (entry.taken ∷ []))

  -- a command more, with its document where there is one for each before it, or without
  command_kept : (old kept : List (List Element)) (document : List Element) → AreMadeThere start order n (takens (drop n order)) old
      → IsMade (fold start (takens order)) entry.taken document
      → (kept ≡ old) ⊎ ((length old + 1 ≡ length (takens (drop n (order ++ entry ∷ [])))) × (kept ≡ old ++ document ∷ []))
      → AreMadeThere start (order ++ entry ∷ []) n (takens (drop n (order ++ entry ∷ []))) kept
  command_kept old kept document are is (inl same) =
      subst (λ (d : List (List Element)). AreMadeThere start (order ++ entry ∷ []) n (takens (drop n (order ++ entry ∷ []))) d) (sym same) (command_more old are)
  command_kept old kept document are is (inr (many, more)) =
      subst (λ (d : List (List Element)). AreMadeThere start (order ++ entry ∷ []) n (takens (drop n (order ++ entry ∷ []))) d) (sym more)
      (document_more old document are (as_many old many) is)

module _ (start : State) (order : List Entry) (ticket : Ticket) (new : Progress Entry) (was : WasSubmitted start order ticket new) where
  -- what the command that was taken leaves
  last_made : (revision : ℕ) (last : TakenLast start order ticket new revision) (entry : Entry) → entry ≡ entry_of ticket.command last.taken
      → IsMade (fold start (takens order)) last.taken (text_at new.state entry.taken.document)
  last_made revision last entry is = record {
    continues = taken_grows (fold start (takens order)) ticket.command last.taken was.numbered.0 was.numbered.1 last.answered;
    left =
        ap (λ (e : Entry). text_at new.state e.taken.document) is ∙ ap (λ (s : State). text_at s last.taken.document) last.state;
  }

  -- The command was taken: its document is put behind the others, where there are as many as commands before it, or the others stay.
  pub keeps_taken : (revision : ℕ) (last : TakenLast start order ticket new revision) (entry : Entry) (old kept : List (List Element))
      → entry ≡ entry_of ticket.command last.taken → AreMadeThere start order new.taken (takens (drop new.taken order)) old
      → (kept ≡ old) ⊎ ((length old + 1 ≡ length (untaken new)) × (kept ≡ old ++ text_at new.state entry.taken.document ∷ []))
      → AreMadeThere start new.order new.taken (untaken new) kept
  keeps_taken revision last entry old kept is are may =
      subst (λ (o : List Entry). AreMadeThere start o new.taken (takens (drop new.taken o)) kept) (sym last.longer)
      (command_kept start order (entry_of ticket.command last.taken) new.taken last.within old kept (text_at new.state entry.taken.document) are
      (last_made revision last entry is)
      (subst
      (λ (o : List Entry). (kept ≡ old) ⊎ ((length old + 1 ≡ length (takens (drop new.taken o))) × (kept ≡ old ++ text_at new.state entry.taken.document ∷ [])))
      last.longer may))

  -- It was there before: the order stays.
  pub keeps_again : (revision : ℕ) → WasBefore start order ticket new revision → (kept : List (List Element))
      → AreMadeThere start order new.taken (takens (drop new.taken order)) kept → AreMadeThere start new.order new.taken (untaken new) kept
  keeps_again revision again kept are =
      subst (λ (o : List Entry). AreMadeThere start o new.taken (takens (drop new.taken o)) kept) (sym again.same) are

taken_by : (board : Progress Entry) (command : Command) (due : Answer) → (submitted_by (entry_of command) board due).taken ≡ board.taken
taken_by board command (Takes taken) = refl
taken_by board command (Repeats revision) = refl
taken_by board command (Refuses refusal) = refl

-- before the order has the command that was submitted, the documents stand beside its commands as they did
pub as_before : (start : State) (old new : Progress Entry) (order : List Entry) (command : Command) (documents : List (List Element)) → order ≡ old.order
    → new ≡ submitted (entry_of command) old command → AreMadeThere start old.order old.taken (untaken old) documents
    → AreMadeThere start order new.taken (takens (drop new.taken order)) documents
as_before start old new order command documents same is are =
    subst (λ (o : List Entry). AreMadeThere start o new.taken (takens (drop new.taken o)) documents) (sym same)
    (subst (λ n. AreMadeThere start old.order n (takens (drop n old.order)) documents) (sym taken) are)
  where
    taken : new.taken ≡ old.taken
    taken = ap (λ (b : Progress Entry). b.taken) is ∙ taken_by old command (answer old.state command)

module _ (start : State) (board : Progress Entry) (documents : List (List Element)) (are : AreMadeThere start board.order board.taken (untaken board) documents) where
  -- a run that is taken off has the documents of its first commands
  pub run_made : (count : ℕ) (commands : List Taken) → commands ≡ takens (next_run board count) → AreMadeThere start board.order board.taken commands (take count documents)
  run_made count commands is =
      subst (λ (l : List Taken). AreMadeThere start board.order board.taken l (take count documents)) (sym (takens-take count (drop board.taken board.order)) ∙ sym is)
      (made_first (fold start (takens (take board.taken board.order))) (untaken board) documents count are)

  before_rest : (count : ℕ) → fold (fold start (takens (take board.taken board.order))) (take count (untaken board)) ≡ fold start (takens (take (board.taken + count) board.order))
  before_rest count =
      sym (fold-append start (takens (take board.taken board.order)) (take count (untaken board)))
      ∙ ap (fold start) (ap (λ (l : List Taken). takens (take board.taken board.order) ++ l) (sym (takens-take count (drop board.taken board.order)))
      ∙ sym (takens-append (take board.taken board.order) (take count (drop board.taken board.order)))
      ∙ ap takens (sym (take-add board.taken count board.order)))

  rest_of : (count : ℕ) → drop count (untaken board) ≡ takens (drop (board.taken + count) board.order)
  rest_of count = sym (takens-drop count (drop board.taken board.order)) ∙ ap takens (drop-drop count board.taken board.order)

  -- and the board keeps the others
  pub rest_made : (count : ℕ) (new : Progress Entry) → new ≡ taken_more board count → AreMadeThere start new.order new.taken (untaken new) (drop count documents)
  rest_made count new is =
      subst (λ (b : Progress Entry). AreMadeThere start b.order b.taken (untaken b) (drop count documents)) (sym is)
      (subst (λ (s : State). AreMade s (takens (drop (board.taken + count) board.order)) (drop count documents)) (before_rest count)
      (subst (λ (l : List Taken). AreMade (fold (fold start (takens (take board.taken board.order))) (take count (untaken board))) l (drop count documents)) (rest_of count)
      (made_rest (fold start (takens (take board.taken board.order))) (untaken board) documents count are)))

none_taken : (board : Progress Entry) (count : ℕ) → count ≤ length (takens (drop board.taken board.order)) → can_take board count ≡ false → count ≡ 0
none_taken board count within cant =
    let long : length (takens (drop board.taken board.order)) ≡ length (drop board.taken board.order) = length-map (drop board.taken board.order) (λ (e : Entry). e.taken) in
    let dropped = length-drop board.taken board.order in grind (arith, nat_tests)

taken_when : (can : Bool) (board : Progress Entry) (count : ℕ) → (can ≡ false → count ≡ 0) → (if can then taken_more board count else board) ≡ taken_more board count
taken_when true board count none = refl
taken_when false board count none = let same : board.taken ≡ board.taken + count = omega (arith, none refl) in ap (λ n. record board { taken = n }) same

-- a board that may have nothing to take off
pub takes : (board : Progress Entry) (count : ℕ) → count ≤ length (untaken board) → (if can_take board count then taken_more board count else board) ≡ taken_more board count
takes board count within = taken_when (can_take board count) board count (none_taken board count within)

-- The documents of a run, where it continues what is published.
pub made_by : (start : State) (told commands named : List Taken) (place at : ℕ) (order : List Entry) (documents : List (List Element)) → commands ≡ named
    → place ≡ at → at ≡ length told → AreMadeThere start order place commands documents → IsPrefix told (takens order) → AreMade (fold start told) named documents
made_by start told commands named place at order documents is same long are begins =
    subst (λ (l : List Taken). AreMade (fold start told) l documents) is
    (subst (λ (l : List Taken). AreMade (fold start l) commands documents) first are)
  where
    first : takens (take place order) ≡ told
    first = takens-take place order
        ∙ ap (λ n. take n (takens order)) (same ∙ long)
        ∙ ap (take (length told)) (sym begins.1)
        ∙ take-append_seam told begins.0
