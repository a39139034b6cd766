-- The place that the scan reaches is the place behind the bytes that it has taken.
use Rattle.std.proofs.Common.{◌≡◌, ℕ, ◌+◌, List, [], ◌∷◌, ◌++◌, sym, ap, ap₂, ◌∙◌, cond, append_assoc, append-nil, arith, reverse}
use Rattle.std.specs.Prelude.{Bool, true, false, not, ◌==◌}
use Rattle.std.specs.List.{count_by, prefix_len}
use Rattle.std.proofs.lemmas.List.{reverse-append}
use Rattle.std.proofs.lemmas.List.Sums.{sum_by_push}
use Rattle.fs_grammar.specs.declared.fault.TextPlace.{TextPlace}
use Rattle.fs_lex.specs.Scan.{place_after_byte, place_after_bytes}
use Rattle.fs_lex.specs.Tokenization.{place_behind}

abbrev place_at : ℕ → ℕ → TextPlace
place_at n m = record { line = n; column = m }

after_one : (t : Bool) (l c : ℕ) → cond t (place_at ((1 + l) + 1) 1) (place_at (1 + l) ((1 + c) + 1))
    ≡ place_at (1 + (l + cond t 1 0)) (1 + cond (not t) (1 + c) 0)
after_one true l c =
    let e : (1 + l) + 1 ≡ 1 + (l + 1) = omega arith in
    ap (λ (n : ℕ). place_at n 1) e
after_one false l c =
    let e : 1 + l ≡ 1 + (l + 0) = omega arith in
    let f : (1 + c) + 1 ≡ 1 + (1 + c) = omega arith in
    ap₂ place_at e f

after_behind : (front : List ℕ) (b : ℕ) → place_after_byte (place_behind front) b ≡ place_behind (front ++ b ∷ [])
after_behind front b =
    let l = count_by (λ (x : ℕ). x == 10) front in
    let c = prefix_len (λ (x : ℕ). not (x == 10)) (reverse front) in
    let f : count_by (λ (x : ℕ). x == 10) (front ++ b ∷ []) ≡ l + cond (b == 10) 1 0 = sum_by_push (λ (x : ℕ). cond (x == 10) 1 0) front b in
    let g : prefix_len (λ (x : ℕ). not (x == 10)) (reverse (front ++ b ∷ [])) ≡ cond (not (b == 10)) (1 + c) 0 =
    ap (λ (xs : List ℕ). prefix_len (λ (x : ℕ). not (x == 10)) xs) (reverse-append front (b ∷ [])) in
    after_one (b == 10) l c ∙ sym (ap₂ (λ (n m : ℕ). place_at (1 + n) (1 + m)) f g)

pub moved_behind : (front bs : List ℕ) → place_after_bytes (place_behind front) bs ≡ place_behind (front ++ bs)
moved_behind front [] = sym (ap place_behind (append-nil front))
moved_behind front (b ∷ bs) = ap (λ (p : TextPlace). place_after_bytes p bs) (after_behind front b) ∙ moved_behind (front ++ b ∷ []) bs
    ∙ ap place_behind (append_assoc front (b ∷ []) bs)
