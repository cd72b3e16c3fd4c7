use Rattle.cop_project.proofs.Folders.{cut_behind}
use Rattle.cop_project.proofs.expanding.folder_of.Goals as goal

pub range-requires-clause-end_boundary : goal.range-requires-clause-end_boundary
range-requires-clause-end_boundary c =
    cut_behind c.args.named.now c.as_bytes.result.now c.folder_len-len.result c.as_bytes.ensures.value c.utf8.named c.if-len-eq0.false c.folder_len-len.ensures.bound c.folder_len-len.ensures.slash
