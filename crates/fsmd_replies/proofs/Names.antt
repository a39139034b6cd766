-- The text of a symbol begins with its side, and a name is looked up.
use Rattle.std.proofs.Common.{◌≡◌, ◌++◌, ℕ, List, [], Option, Some, None, refl}
use Rattle.fs_model.specs.declared.parts.VarInfo.{VarInfo}
use Rattle.fs_model.specs.VariableNames.{name_or_nothing}
use Rattle.fs_model.specs.declared.sides.Side.{Side}
use Rattle.fs_model.specs.declared.sides.Side.TheVariants.{Left, Right}
use Rattle.term_text.specs.TermTexts.{symbol_text}
use Rattle.fsmd_replies.specs.ObstacleTexts.{text_of_lookup}

pub symbol_parts : (s : Side) (x : List ℕ) → symbol_text s [] ++ x ≡ symbol_text s x
symbol_parts Left x = refl
symbol_parts Right x = refl

pub name_found : (o : Option VarInfo) → name_or_nothing o ≡ text_of_lookup (λ v. v.name) o
name_found (Some v) = refl
name_found None = refl
