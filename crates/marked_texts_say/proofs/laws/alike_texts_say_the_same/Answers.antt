use Rattle.marked_texts_say.proofs.SameTrees.{faults_alike, reads_alike, say_the_same}
use Rattle.marked_texts_say.proofs.laws.alike_texts_say_the_same.Goals as goal

pub returns : goal.returns
returns c = record { reads = reads_alike; faults = faults_alike; says = say_the_same }
