-- What goes on behind parts that were read one after another.
use Rattle.std.proofs.Common.{◌≡◌, ℕ, ◌<◌, length, Bool, true, false, List, [], ◌∷◌, Result, Ok, Err, IfOk, sym, ap, subst, arith, ◌∙◌}
use Rattle.std.specs.Result.{result_map_both}
use Rattle.fs_grammar.specs.declared.fault.TextPlace.{TextPlace}
use Rattle.fs_grammar.specs.declared.fault.TextFault.{TextFault}
use Rattle.fs_grammar.specs.declared.fault.ReadError.{ReadError}
use Rattle.fs_grammar.specs.declared.token.TokenKind.{TokenKind}
use Rattle.fs_grammar.specs.declared.token.TokenKind.TheVariants.{Name}
use Rattle.fs_grammar.specs.declared.token.Token.{Token}
use Rattle.fs_grammar.specs.Tokens.{Fails, ParsesOn}
use Rattle.fs_grammar.specs.PartEnds.{name_in}

pub joined : {X Y Z : Type 0} (r : Result (X × Y) ReadError) (x : X) (n : Result Y ReadError) {w v : Result Z TextFault} (on : X × Y → Result Z TextFault)
    → r ≡ result_map_both (λ y. (x, y)) (λ e. e) n → w ≡ v → ParsesOn n v (λ y. on (x, y)) → ParsesOn r w on
joined r x (Ok y) {w} on is s g = subst (λ q. ParsesOn q w on) (sym is) (s ∙ g)
joined r x (Err d) {w} on is s g = subst (λ q. ParsesOn q w on) (sym is) (subst (λ q. Fails d q) (sym s) g)

pub if_joined : {X Y : Type 0} (r : Result (X × Y) ReadError) (x : X) (n : Result Y ReadError) (P : X × Y → Type 0) (Q : Y → Type 0)
    → r ≡ result_map_both (λ y. (x, y)) (λ e. e) n → IfOk n Q → ((y : Y) → Q y → P (x, y)) → IfOk r P
if_joined r x (Ok y) P Q is h f = subst (λ q. IfOk q P) (sym is) (f y h)
if_joined r x (Err d) P Q is h f = subst (λ q. IfOk q P) (sym is) tt

-- what a name leaves is shorter
abbrev left_by_name : Result (List ℕ × List Token) TextFault → List Token
left_by_name (Ok x) = x.1
left_by_name (Err f) = []

name_left : (w : TokenKind) (past_limit : Bool) (place : TextPlace) (ts rest : List Token) (x : List ℕ)
    → name_in (record { kind = w; past_limit = past_limit; place = place } ∷ ts) ≡ Ok (x, rest) → ts ≡ rest
name_left (Name y) true place ts rest x e = absurd cc
name_left (Name y) false place ts rest x e = ap left_by_name e
name_left w past_limit place ts rest x e = absurd cc

pub name_shorter : (ts rest : List Token) (x : List ℕ) → name_in ts ≡ Ok (x, rest) → length rest < length ts
name_shorter [] rest x e = absurd cc
name_shorter (t ∷ ts) rest x e = subst (λ r. length r < length (t ∷ ts)) (name_left t.kind t.past_limit t.place ts rest x e) (omega arith)
