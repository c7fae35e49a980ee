use Rattle.std.proofs.Common.{◌≡◌, fold, length}
use Rattle.ir_hashing.specs.Words.{word_writes}
use Rattle.ir_hashing.proofs.words.hash_byte_words.Given as goal

abbrev pub invariant-loop-left : goal.invariant-loop-left
invariant-loop-left g l = fold g.H.Hasher.write l.state (word_writes l.left) ≡ fold g.H.Hasher.write l.initial.state (word_writes l.initial.left)

abbrev pub decreases-loop-left : goal.decreases-loop-left
decreases-loop-left g l = length l.left
