use Rattle.report.proofs.Shares.{divided}
use Rattle.report.proofs.chart.share.Goals as goal

pub returns : goal.returns
returns c = divided c.args.bound c.ranges.bound.fits
