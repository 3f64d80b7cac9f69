-- The program of a text that reads is scoped.
use Rattle.std.proofs.Common.{sym, subst}
use Rattle.mz_scope.specs.Trees.{tree_of}
use Rattle.mz_tree.specs.Scoped.{Scoped}
use Rattle.mz_scoped.specs.Laws.{WhatReadsIsScoped}
use Rattle.mz_scoped.proofs.ProperTexts.{proper_tree}
use Rattle.mz_scoped.proofs.ScopedDeclarations.{scoped_of}

-- its tree is proper, and nothing is wrong with it
pub read_scoped : WhatReadsIsScoped
read_scoped bytes program reads =
    subst Scoped (sym reads.flattens.flat)
    (scoped_of (tree_of reads.surface) (proper_tree bytes reads.tokens reads.surface reads.text reads.lexes reads.parses reads.within) reads.flattens.clean reads.flattens.begins)
