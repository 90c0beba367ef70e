-- The bytes that stand behind a record's gate.
use Rattle.std.proofs.Common.{◌≡◌, ℕ, ◌+◌, ◌-◌, List, [], ◌∷◌, ◌++◌, length, take, drop, refl, sym, ◌∙◌, ap, subst, arith, append_assoc, length-append}
use Rattle.std.specs.Int.{w32, to_le_bytes}
use Rattle.std.proofs.lemmas.List.{take_at, drop_at}
use Rattle.journal.specs.Area.{frame, IsBody}
use Rattle.journal.specs.Record.{body_of, IsRecord}
use Rattle.journal.proofs.Areas.{length-frame}

-- the body is found again
pub framed_body : (body : List ℕ) → body_of (frame body ++ 0 ∷ []) ≡ body
framed_body body =
    let number = to_le_bytes w32 (length body) in
    let bytes = frame body ++ 0 ∷ [] in
    let long : length bytes - 5 ≡ length body = omega (arith, length-append (frame body) (0 ∷ []), length-frame body) in
    let behind : drop 4 bytes ≡ body ++ 0 ∷ [] = ap (λ (l : List ℕ). drop 4 l) (append_assoc number body (0 ∷ [])) ∙ drop_at number (body ++ 0 ∷ []) 4 (omega arith) in
    ap (λ n. take n (drop 4 bytes)) long ∙ ap (λ (l : List ℕ). take (length body) l) behind ∙ take_at body (0 ∷ []) (length body) refl

pub body_of_framed : (bytes body : List ℕ) → bytes ≡ frame body ++ 0 ∷ [] → body_of bytes ≡ body
body_of_framed bytes body is = ap body_of is ∙ framed_body body

pub is_framed : (bytes body : List ℕ) → bytes ≡ frame body ++ 0 ∷ [] → IsBody body → IsRecord bytes
is_framed bytes body is has =
    let same : body_of bytes ≡ body = body_of_framed bytes body is in
    record { is = is ∙ ap (λ (l : List ℕ). frame l ++ 0 ∷ []) (sym same); body = subst IsBody (sym same) has }

-- and they are five more than the body has
pub framed_long : (bytes : List ℕ) → IsRecord bytes → length bytes ≡ length (body_of bytes) + 5
framed_long bytes record_is =
    let whole : length bytes ≡ length (frame (body_of bytes) ++ 0 ∷ []) = ap (λ (l : List ℕ). length l) record_is.is in
    omega (arith, whole, length-append (frame (body_of bytes)) (0 ∷ []), length-frame (body_of bytes))
