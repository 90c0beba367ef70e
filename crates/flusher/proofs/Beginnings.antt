-- A prefix of a list of batches, when more batches come.
use Rattle.std.proofs.Common.{◌≡◌, ◌≤◌, inl, inr, ℕ, List, [], ◌++◌, length, sym, ◌∙◌, ap, subst, arith, append_assoc, append-nil, length-append}
use Rattle.revision.specs.Command.{Taken}
use Rattle.revision.specs.State.{State, fold}
use Rattle.recovery.specs.Found.{commands_of, FoundAs}
use Rattle.recovery.specs.Open.{IsWithOrWithout}
use Rattle.flusher.specs.Batches.{IsBeginning}
pub use Rattle.revision.proofs.CallerLemmas.{fold-append}
pub use Rattle.recovery.proofs.CallerLemmas.{commands-append}

-- a prefix makes no more commands
pub no_more : (first more : List (List Taken)) → length (commands_of first) ≤ length (commands_of (first ++ more))
no_more first more = omega (arith, ap length (commands-append first more), length-append (commands_of first) (commands_of more))

pub fewer : (least less : ℕ) (start : State) (batches : List (List Taken)) (content : List ℕ) → less ≤ least → IsBeginning least start batches content → IsBeginning less start batches content
fewer least less start batches content le is = record { first = is.first; more = is.more; whole = is.whole; enough = omega (arith, is.enough); found = is.found }

pub longer : (least : ℕ) (start : State) (batches with_more l : List (List Taken)) (content : List ℕ) → with_more ≡ batches ++ l → IsBeginning least start batches content → IsBeginning least start with_more content
longer least start batches with_more l content same is = record {
  first = is.first;
  more = is.more ++ l;
  whole = sym (append_assoc is.first is.more l) ∙ ap (λ (b : List (List Taken)). b ++ l) is.whole ∙ sym same;
  enough = is.enough;
  found = is.found;
}

-- what is found as the state after some batches, with which all begin
pub these : (least : ℕ) (start state : State) (batches told l : List (List Taken)) (content : List ℕ) → batches ≡ told ++ l → least ≤ length (commands_of told)
    → state ≡ fold start (commands_of told) → FoundAs content state → IsBeginning least start batches content
these least start state batches told l content same enough is found = record { first = told; more = l; whole = sym same; enough = enough; found = subst (λ (s : State). FoundAs content s) is found }

-- during a write: without the batches that are written, and with them
pub within_write : (least : ℕ) (start state : State) (batches told l : List (List Taken)) (content : List ℕ) → batches ≡ told ++ l → least ≤ length (commands_of told)
    → state ≡ fold start (commands_of told) → IsWithOrWithout state (commands_of l) content → IsBeginning least start batches content
within_write least start state batches told l content same enough is (inl found) = these least start state batches told l content same enough is found
within_write least start state batches told l content same enough is (inr found) =
    let after : fold state (commands_of l) ≡ fold start (commands_of batches) =
    ap (λ (s : State). fold s (commands_of l)) is ∙ sym (fold-append start (commands_of told) (commands_of l)) ∙ ap (fold start) (sym (commands-append told l) ∙ ap commands_of (sym same)) in
    let all : commands_of batches ≡ commands_of told ++ commands_of l = ap commands_of same ∙ commands-append told l in
    these least start (fold state (commands_of l)) batches batches [] content (sym (append-nil batches)) (omega (arith, enough, ap length all, length-append (commands_of told) (commands_of l))) after found
