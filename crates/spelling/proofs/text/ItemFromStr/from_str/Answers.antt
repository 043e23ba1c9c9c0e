use Rattle.std.proofs.Common.{refl}
use Rattle.spelling.proofs.Words.{parsed, numbers}
use Rattle.spelling.proofs.text.ItemFromStr.from_str.Goals as goal

pub returns : goal.returns
returns c =
    let p = c.unwrap_or.result in
    let times = c.in_ok-parse-5.ensures.value.0 in
    let number = c.in_ok-parse-6.ensures.value.0 in
    let front = parsed 16 p.0.now c.in_ok-parse-5.field-0 times.0.0 times.0.1 times.1 in
    let back = parsed 16 p.1.now c.in_ok-parse-6.field-0 number.0.0 number.0.1 number.1 in
    numbers c.args.word.now _ _ c.in_ok-parse-5.field-0 c.in_ok-parse-6.field-0 refl refl c.split_once.result c.split_once.ensures.cases
    (rw c.unwrap_or.ensures at front) (rw c.unwrap_or.ensures at back)
