use Rattle.text_marking.proofs.PutAndTaken.{put_and_taken}
use Rattle.text_marking.proofs.laws.put_marks_are_taken.Goals as goal

pub returns : goal.returns
returns c = put_and_taken
