use Rattle.view.proofs.Showing.{shows_more}
use Rattle.view.proofs.publisher.shown.Goals as goal

pub publish_as-writer-requires : goal.publish_as-writer-requires
publish_as-writer-requires g c next is views holds at =
    let shows = shows_more g.L.Life.start c.args.told c.args.next c.args.receipt.batch c.args.writer.desk.shown.value next _ c.requires.shown c.requires.waiting c.requires.next is in
    (tt, shows, shows)
