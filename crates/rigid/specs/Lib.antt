-- A node's rigid layout by its bytes.
pub mod RigidIn
