-- What a reader answers for the text of a term.
use Rattle.std.proofs.Common.{◌≡◌, nat_le, true, List, ℕ, Result, Ok, Err, Some, sym, ap, ◌∙◌}
use Rattle.std.specs.Prelude.{IfOk}
use Rattle.std.proofs.lemmas.Option.{none-some}
use Rattle.nf_terms.specs.TermLimits.{depth_limit}
use Rattle.term_text.specs.declared.fault.ReadError.{ReadError}
use Rattle.term_text.specs.declared.fault.ReadError.TheVariants.{BadTerm, NoMemory}
use Rattle.term_text.specs.TermTexts.{TermSyntax, Polynomial, ArrayTerm, ListSyntax, polynomial, array, list, term_text}
use Rattle.term_text.specs.Machine.{Owed, term_reading, TermMadeAs, IsRead}
use Rattle.term_text.specs.Reached.{SpellsTerm}
use Rattle.term_text.specs.SpellableTerms.{SpellsTermText}
use Rattle.term_text.specs.Brackets.{most_open}

same_term : (t u : TermSyntax) → Some t ≡ Some u → t ≡ u
same_term t u e = cc

-- a term that is spelled is what is read
pub again : {X : Type 0} (start : Owed) (term_of : X → TermSyntax) (r : Result X ReadError) (bytes : List ℕ) (t : TermSyntax)
    → term_reading (term_text t) start ≡ Some t → IsRead start term_of r bytes → SpellsTermText bytes t → TermMadeAs r (λ x. term_of x ≡ t)
again start term_of (Ok x) bytes t w h s = same_term (term_of x) t (sym h ∙ ap (λ (bs : List ℕ). term_reading bs start) s.text ∙ w)
again start term_of (Err BadTerm) bytes t w h s = none-some t (sym h ∙ ap (λ (bs : List ℕ). term_reading bs start) s.text ∙ w)
again start term_of (Err NoMemory) bytes t w h s = tt

-- what is read is spelled
pub found : {X : Type 0} (start : Owed) (term_of : X → TermSyntax) (r : Result X ReadError) (bytes : List ℕ)
    → ((t : TermSyntax) → term_reading bytes start ≡ Some t → SpellsTerm bytes t) → nat_le (most_open 0 bytes) depth_limit ≡ true → IsRead start term_of r bytes
    → IfOk r (λ x. SpellsTermText bytes (term_of x))
found start term_of (Ok x) bytes sound e h = let s = sound (term_of x) h in record { spelled = s.fine; text = s.text; shallow = e }
found start term_of (Err d) bytes sound e h = tt

made_of : {X : Type 0} (P Q : X → Type 0) (r : Result X ReadError) → ((x : X) → P x → Q x) → TermMadeAs r P → TermMadeAs r Q
made_of P Q (Ok x) f h = f x h
made_of P Q (Err BadTerm) f h = h
made_of P Q (Err NoMemory) f h = tt

pub polynomial_made : {X : Type 0} (in_tree : X → Polynomial) (r : Result X ReadError) (p : Polynomial)
    → TermMadeAs r (λ x. polynomial (in_tree x) ≡ polynomial p) → TermMadeAs r (λ x. in_tree x ≡ p)
polynomial_made in_tree r p h = made_of (λ x. polynomial (in_tree x) ≡ polynomial p) (λ x. in_tree x ≡ p) r (λ x e. cc) h

pub array_made : {X : Type 0} (in_tree : X → ArrayTerm) (r : Result X ReadError) (a : ArrayTerm) → TermMadeAs r (λ x. array (in_tree x) ≡ array a)
    → TermMadeAs r (λ x. in_tree x ≡ a)
array_made in_tree r a h = made_of (λ x. array (in_tree x) ≡ array a) (λ x. in_tree x ≡ a) r (λ x e. cc) h

pub list_made : {X : Type 0} (in_tree : X → ListSyntax) (r : Result X ReadError) (l : ListSyntax) → TermMadeAs r (λ x. list (in_tree x) ≡ list l)
    → TermMadeAs r (λ x. in_tree x ≡ l)
list_made in_tree r l h = made_of (λ x. list (in_tree x) ≡ list l) (λ x. in_tree x ≡ l) r (λ x e. cc) h
