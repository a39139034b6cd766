-- The plain data that programs stand for.
use Rattle.std.specs.Prelude.{ℕ, List, [], ◌∷◌, map}
use Rattle.fs_model.specs.View.{named_guard, named_assignment, declaration_of}
use Rattle.hls_program_parts.specs.Programs as plain
use Rattle.hls_program_parts.specs.Programs.{Block, End, Do, If, While, join_blocks}
use Rattle.hls_program_parts.specs.declared.program.Program.{Program}
use Rattle.hls_program_parts.specs.declared.program.Stmt.{Stmt}
use Rattle.hls_program_parts.specs.declared.program.Stmt.TheOpen.{Stmt-F}
use Rattle.hls_program_parts.specs.declared.program.Stmt.TheOpen as open_tree
use Rattle.hls_program_parts.specs.declared.program.Stmt.TheFolds.{fold-Stmt}

-- blocks that follow one another, as one
abbrev pub in_order : List (Block (List ℕ)) → Block (List ℕ)
in_order [] = End
in_order (b ∷ bs) = join_blocks b (in_order bs)

-- a statement as a block of its own, from those in it
abbrev pub stmt_step : Stmt-F (Block (List ℕ)) → Block (List ℕ)
stmt_step (open_tree.Do line assign) = Do line (named_assignment assign) End
stmt_step (open_tree.If line guard on_yes on_no) = If line (named_guard guard) (in_order on_yes.items) (in_order on_no.items) End
stmt_step (open_tree.While line guard body) = While line (named_guard guard) (in_order body.items) End

abbrev pub block_of_statement : Stmt → Block (List ℕ)
block_of_statement = fold-Stmt (Block (List ℕ)) stmt_step

-- the block of statements
abbrev pub block_of : List Stmt → Block (List ℕ)
block_of ss = in_order (map block_of_statement ss)

abbrev pub program_of : Program → plain.Program
program_of p = record { declarations = map declaration_of p.decls.items; body = block_of p.body.items }
