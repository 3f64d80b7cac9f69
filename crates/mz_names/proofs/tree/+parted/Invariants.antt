use Rattle.mz_names.proofs.tree.+parted.Given as goal

abbrev pub decreases-parted : goal.decreases-parted
decreases-parted l = l.left
