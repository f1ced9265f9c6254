use Rattle.dist_classes.proofs.bound_table.table_of.Goals as goal

pub returns-in-Ok : goal.returns-in-Ok
returns-in-Ok c = record {
  sorted = c.sort.ensures.sorted;
  exact = λ q v. (
    (λ there. (c.in-Ok.ensures q v).0 ((c.sort.ensures.same q v).0 there)),
    λ on. (c.sort.ensures.same q v).1 ((c.in-Ok.ensures q v).1 on),
  );
}
