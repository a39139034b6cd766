-- What is quoted reads back.
use Rattle.std.proofs.Common.{◌≡◌, ℕ, Bool, true, false, cond, List, [], ◌∷◌, ◌++◌, Some, refl, sym, ap, ◌∙◌, append_assoc}
use Rattle.std.specs.Prelude.{◌==◌, Option}
use Rattle.std.specs.List.{flat_map}
use Rattle.std.proofs.lemmas.Bool.{eqb-true}
use Rattle.show_machine_pictures.specs.Quotes.{escaped_byte, quoted_text, before, read_text, read_quoted}

-- a byte that is read before the rest
one : (b : ℕ) (quote slash line : Bool) (bs : List ℕ) (r : Option (List ℕ × List ℕ)) → (b == 34) ≡ quote → (b == 92) ≡ slash → (b == 10) ≡ line
    → read_text false bs ≡ r
    → read_text false (cond quote (92 ∷ 34 ∷ []) (cond slash (92 ∷ 92 ∷ []) (cond line (92 ∷ 108 ∷ []) (b ∷ []))) ++ bs) ≡ before b r
one b true slash line bs r q s n e = ap (before 34) e ∙ ap (λ x. before x r) (sym (eqb-true b 34 q))
one b false true line bs r q s n e = ap (before 92) e ∙ ap (λ x. before x r) (sym (eqb-true b 92 s))
one b false false true bs r q s n e = ap (before 10) e ∙ ap (λ x. before x r) (sym (eqb-true b 10 n))
one b false false false bs r q s n e =
    ap (λ t. cond t (Some ([], bs)) (cond (b == 92) (read_text true bs) (before b (read_text false bs)))) q
    ∙ ap (λ t. cond t (read_text true bs) (before b (read_text false bs))) s
    ∙ ap (before b) e

reads : (text rest : List ℕ) → read_text false (flat_map escaped_byte text ++ 34 ∷ rest) ≡ Some (text, rest)
reads [] rest = refl
reads (b ∷ text) rest =
    ap (read_text false) (append_assoc (escaped_byte b) (flat_map escaped_byte text) (34 ∷ rest))
    ∙ one b (b == 34) (b == 92) (b == 10) (flat_map escaped_byte text ++ 34 ∷ rest) (Some (text, rest)) refl refl refl (reads text rest)

pub reads_back : (text rest : List ℕ) → read_quoted (quoted_text text ++ rest) ≡ Some (text, rest)
unfolding quoted_text
reads_back text rest = ap (read_text false) (append_assoc (flat_map escaped_byte text) (34 ∷ []) rest) ∙ reads text rest
