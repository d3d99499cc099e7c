use Rattle.tcp_segment.proofs.Putting.{headers_put}
use Rattle.tcp_segment.proofs.headers.put_headers.Goals as goal

pub returns : goal.returns
returns c =
    headers_put c.args.out.now c.args.area.now c.put_fields.new.header c.put16.new.bytes c.put_head.new.out c.args.total c.segment_sum-sum.result
    c.requires.least c.requires.fits c.put_fields.ensures c.segment_sum-sum.ensures c.put16.ensures c.put_head.ensures
