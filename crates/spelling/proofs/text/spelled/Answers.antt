use Rattle.std.proofs.Common.{[], ◌∷◌, ◌++◌, sym, ap, ◌∙◌}
use Rattle.std.specs.Str.Iter.{split_whitespace_rest}
use Rattle.spelling.specs.Text.{with_item, nothing_told, input_of}
use Rattle.spelling.proofs.Items.{items_push, told_push}
use Rattle.spelling.proofs.text.spelled.Goals as goal

pub loop-word-preserved : goal.loop-word-preserved
loop-word-preserved c =
    let (items, are, told) = c.loop-word.invariant in
    let item = c.in_ok-parse.field-0 in (
      items ++ (item ∷ []),
      items_push _ items c.in-Some.word item are c.in_ok-parse.ensures.value,
      c.in_ok-take_in.ensures.told ∙ ap (with_item item) told ∙ sym (told_push items item nothing_told),
    )

pub returns : goal.returns
returns c =
    let (items, are, told) = c.loop-word.invariant in
    record {
      spells = record {
        words = c.loop-word.yielded;
        items = items;
        are_words = (
          c.into_iter-word-iterator.result,
          ap split_whitespace_rest c.into_iter-word-iterator.ensures.into_iter_gives ∙ c.split_whitespace-word-items.ensures.rest,
          (c.next.new.self, (c.loop-word.word-iterator, c.loop-word.yielded_by, rw c.in-None.is at c.next.ensures.steps)),
        );
        are_items = are;
        input = c.in_ok-bytes.ensures.input ∙ ap input_of told;
      };
    }
