use Rattle.ecdsa.proofs.Orders.{order_is_right}
use Rattle.ecdsa.proofs.orders_are_orders.Goals as goal

pub returns : goal.returns
returns c = order_is_right
