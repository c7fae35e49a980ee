use Rattle.std.proofs.Common.{refl, string_bytes, subst}
use Rattle.irkit_driver.specs.Told.{Told}
use Rattle.irkit_words.specs.Lines.{memory_line}
use Rattle.irkit_driver.proofs.driving.answer.Goals as goal

pub returns-in-Mistaken : goal.returns-in-Mistaken
returns-in-Mistaken g c =
    let told : Told g.F.Write.contents c.args.faults.now c.tell.new.faults (string_bytes c.in-Mistaken.line) =
    subst (Told g.F.Write.contents c.args.faults.now c.tell.new.faults) c.as_bytes.ensures.value c.tell.ensures in
    rw c.in-Mistaken.is (refl, (refl {a = c.args.input.now}, refl {a = c.args.output.now}), told)

pub returns-in-NoMemory : goal.returns-in-NoMemory
returns-in-NoMemory g c =
    let told : Told g.F.Write.contents c.args.faults.now c.tell-in-NoMemory.new.faults memory_line =
    subst (Told g.F.Write.contents c.args.faults.now c.tell-in-NoMemory.new.faults) c.as_bytes-in-NoMemory.ensures.value
    c.tell-in-NoMemory.ensures in
    rw c.in-NoMemory.is (refl, (refl {a = c.args.input.now}, refl {a = c.args.output.now}), told)
