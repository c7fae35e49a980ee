use Rattle.std.proofs.Common.{map, string_bytes}
use Rattle.clap.specs.Words.{kind_of}
use Rattle.irkit_words.proofs.ParseLemmas.{refused}
use Rattle.irkit_words.proofs.parsing.understand.Goals as goal

pub returns-in-Err : goal.returns-in-Err
returns-in-Err c =
    refused (map string_bytes c.args.words.now) (kind_of c.in-Err.error) c.in-Err.ensures.taken c.refused_as.result
    c.in-Err.ensures.kinds c.refused_as.ensures
