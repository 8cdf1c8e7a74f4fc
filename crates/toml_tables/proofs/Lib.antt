mod LeastKey
