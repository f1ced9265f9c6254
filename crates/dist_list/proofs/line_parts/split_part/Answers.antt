use Rattle.std.proofs.Common.{drop}
use Rattle.std.specs.List.{prefix_len}
use Rattle.dist_base.specs.Ascii.{is_padding}
use Rattle.dist_list.proofs.PartLemmas.{parts-drop_padding, past_padding, parts-at_part}
use Rattle.dist_list.proofs.line_parts.split_part.Goals as goal

pub returns : goal.returns
returns c =
    let whole = parts-drop_padding c.args.line.now in
    let at = past_padding c.args.line.now in
    let cut = parts-at_part (drop (prefix_len is_padding c.args.line.now) c.args.line.now) at in
    let first = c.split_at.ensures in
    let second = c.split_at-2.ensures in
    cc (whole, cut)
