-- How much of the document after it each of two parts of an operation makes up.
use Rattle.std.proofs.Common.{◌≡◌, ℕ, ◌+◌, ◌<◌, ◌≤◌, List, refl, sym, ap, ◌∙◌, ⊎_elim, arith, length-drop}
use Rattle.std.proofs.lemmas.Bool.{cases_lt}
use Rattle.std.proofs.lemmas.List.{length-take-le}
use Rattle.delta.specs.Operation.{Operation, insert_text, insert_embed, retain, delete, op_len, op_out, out_of}
use Rattle.delta.specs.Parts.{first_units, last_units, left_after}
use Rattle.delta.proofs.CallerLemmas.{left_after-within, left_after-whole, first-whole}

out-last : (n : ℕ) (op : Operation) → 0 < n → n < op_len op → op_out (first_units n op) + op_out (last_units n op) ≡ op_out op
out-last n (insert_text us a) some within = omega (arith, length-take-le n us (omega arith), length-drop n us)
out-last n (insert_embed key value a) some within = absurd (omega arith)
out-last n (retain m c) some within = omega arith
out-last n (delete m) some within = refl

pub out-cut : (n : ℕ) (op : Operation) (ops : List Operation) → 0 < n → n ≤ op_len op → op_out (first_units n op) + out_of (left_after n op ops) ≡ op_out op + out_of ops
out-cut n op ops some within =
    ⊎_elim
    (λ (less : n < op_len op). omega (arith, out-last n op some less, ap out_of (left_after-within n op ops less)))
    (λ (whole : op_len op ≤ n).
    let same : op_len op ≡ n = omega arith in
    ap (λ k. op_out (first_units k op) + out_of (left_after k op ops)) (sym same)
    ∙ (ap (λ o. op_out o + out_of (left_after (op_len op) op ops)) (first-whole op) ∙ ap (λ l. op_out op + out_of l) (left_after-whole op ops)))
    (cases_lt n (op_len op))
