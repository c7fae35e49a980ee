-- What an attribute is printed as is no deeper than what was read, and as bare.
use Rattle.std.proofs.Common.{ℕ, zero, suc}
use Rattle.ir_names.specs.Tree.{node, no_tree, a_tree}
use Rattle.ir_print.specs.Pieces.{Piece, leaf, number, width, Pieces}
use Rattle.ir_print.specs.Layout.{IsFlat, AreFlat}
use Rattle.ir_forest.specs.Bare.{IsBare, AreBare}
use Rattle.kit.specs.Says.{canonical, canonical_number}

-- it is no deeper
number_flat : (d : ℕ) (p q : Piece) (ts : Pieces) → IsFlat d (node p ts) → IsFlat d (node (canonical_number p q) ts)
number_flat d (leaf (number b m)) (leaf (width s w)) ts h = h
number_flat d (leaf (number b m)) q ts h = h
number_flat d p q ts h = h

pub canonical_flat : (n d : ℕ) (ps : Pieces) → AreFlat d ps → AreFlat d (canonical n ps)
canonical_flat zero d no_tree h = h
canonical_flat zero d (a_tree t no_tree) h = h
canonical_flat zero d (a_tree (node p ts) (a_tree (node q us) no_tree)) h = (number_flat d p q ts h.0, h.1)
canonical_flat zero d (a_tree t (a_tree u (a_tree v vs))) h = h
canonical_flat (suc n) d ps h = h

-- nothing comes to stand below it
number_bare : (p q : Piece) (ts : Pieces) → IsBare (node p ts) → IsBare (node (canonical_number p q) ts)
number_bare (leaf (number b m)) (leaf (width s w)) ts h = h
number_bare (leaf (number b m)) q ts h = h
number_bare p q ts h = h

pub canonical_bare : (n : ℕ) (ps : Pieces) → AreBare ps → AreBare (canonical n ps)
canonical_bare zero no_tree h = h
canonical_bare zero (a_tree t no_tree) h = h
canonical_bare zero (a_tree (node p ts) (a_tree (node q us) no_tree)) h = (number_bare p q ts h.0, h.1)
canonical_bare zero (a_tree t (a_tree u (a_tree v vs))) h = h
canonical_bare (suc n) ps h = h
