pub mod HopKeys
